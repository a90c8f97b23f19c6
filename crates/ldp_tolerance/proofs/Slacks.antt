-- Over every list of cells within a tolerance the worst is at most the slack.
use Rattle.std.proofs.Common.{◌≡◌, ℕ, ◌≤◌, ◌*◌, max, Bool, true, false, ℤ, pos, neg_ℤ, nat_abs}
use Rattle.std.proofs.Common.{◌≤ℤ◌, ◌+ℤ◌, ◌-ℤ◌, ◌*ℤ◌, List, [], ◌∷◌, inl, arith, refl, ap, ◌∙◌}
use Rattle.std.specs.Prelude.{Option, Some, IsSome, if◌then◌else◌}
use Rattle.std.proofs.lemmas.Bool.Decides.{nat_tests}
use Rattle.std.proofs.lemmas.Int.{ints}
use Rattle.std.proofs.lemmas.List.Elements.{All-nil, All-cons, All-head, All-tail}
use Rattle.ldp_num.specs.Number.{one}
use Rattle.ldp_num.specs.Units.{radians_of, height_number}
use Rattle.ldp_num.proofs.Ring.{times_up}
use Rattle.ldp_range.proofs.Orders.{floor-le}
use Rattle.ldp_series.specs.declared.list.Lists.{Lists}
use Rattle.ldp_cells.specs.Range.{raised, raised_cell}
use Rattle.ldp_cells.specs.declared.cell.Cell.{Cell}
use Rattle.ldp_distortion.specs.Inputs.{design_inputs}
use Rattle.ldp_distortion.specs.Distortion.{distortion, distortion_in, distortions, joined}
use Rattle.ldp_distortion.specs.Distortion.{cell_results}
use Rattle.ldp_distortion.specs.Prepared.{PreparedCells, prepared, distortions_of}
use Rattle.ldp_distortion.specs.Worst.{worst_of, IsUsable}
use Rattle.ldp_distortion.specs.declared.inputs.Inputs.{Inputs}
use Rattle.ldp_distortion.specs.declared.worst.Worst.{Worst}
use Rattle.ldp_distortion.specs.declared.worst.Worst.TheVariants as worsts
use Rattle.ldp_tolerance.specs.Heights.{MoveOnce, lowered, IsNearby, AreWithin}
use Rattle.ldp_tolerance.specs.Slack.{is_second, slack_from, slack_over, IsAtMost}
use Rattle.ldp_tolerance.specs.Slack.{IsGreatestOf}
use Rattle.ldp_tolerance.specs.declared.side.Side.TheVariants.{Low, High}
use Rattle.ldp_tolerance.specs.declared.side.Slack.TheVariants.{Is}
use Rattle.ldp_tolerance.specs.declared.side.Slack.{Slack}
use Rattle.std.proofs.lemmas.Simd.{map-map}
use Rattle.ldp_num.specs.StepList.{value}
use Rattle.ldp_tolerance.proofs.Ways.{Lands}
use Rattle.ldp_tolerance.proofs.Distortions.{joined-between, some-of}
use Rattle.ldp_tolerance.proofs.Worsts.{most, most-cons, size-between, value-most, value-usable}
use Rattle.ldp_tolerance.proofs.Worsts.{at-most, has-worst}

scaled-up : (a b : ℤ) (k : ℕ) → a ≤ℤ b → (a *ℤ pos k) ≤ℤ (b *ℤ pos k)
scaled-up a b k h = times_up a b (pos k) h (omega (arith, ints))

height-up : (a b : ℤ) → a ≤ℤ b → height_number a ≤ℤ height_number b
height-up a b h =
    floor-le (a *ℤ pos one) (b *ℤ pos one) (6378137 * 1000) (omega arith) (scaled-up a b one h)

lower : (mm other : ℤ) (t : ℕ) → (mm -ℤ pos t) ≤ℤ other → (mm +ℤ neg_ℤ (pos t)) ≤ℤ other
lower mm other t h = omega (arith, ints, h)

-- at a cell
nearby : (lists : Lists) → MoveOnce lists → (at : Inputs) (t : ℕ) (cell other : Cell) (a b : ℤ)
    → IsNearby t cell other → distortion lists at (raised_cell (neg_ℤ (pos t)) cell) ≡ Some a
    → distortion lists at (raised_cell (pos t) cell) ≡ Some b
    → Lands (distortion lists at other) a b
unfolding distortion distortion_in
nearby lists once at t cell other a b near e k =
    rw (near.y, near.x)
    (joined-between lists once (design_inputs at) (radians_of cell.y) (radians_of cell.x)
    (height_number other.mm) (height_number (cell.mm +ℤ neg_ℤ (pos t)))
    (height_number (cell.mm +ℤ pos t)) a b
    (inl (height-up _ _ (lower cell.mm other.mm t near.low), height-up _ _ near.high)) e k)

greatest-of : (v a b os ls hs : ℕ) → v ≤ max a b → os ≤ max ls hs
    → max v os ≤ max (max a ls) (max b hs)
greatest-of v a b os ls hs h k = omega (arith, h, k)

abbrev IsDefined : Option ℤ → Type 0
IsDefined d = IsSome d

is-some : (o : Option ℤ) (v : ℤ) → o ≡ Some v → IsSome o
is-some o v e = rw e refl

-- the distortions at cells within the tolerance
record AreBounded (low high found : List (Option ℤ)) : Type 0 where
  usable : IsUsable found
  small : most found ≤ max (most low) (most high)

one-more : (l h o : Option ℤ) (ls hs os : List (Option ℤ)) (a b : ℤ) → l ≡ Some a → h ≡ Some b
    → Lands o a b → AreBounded ls hs os → AreBounded (l ∷ ls) (h ∷ hs) (o ∷ os)
one-more l h o ls hs os a b e k landed more = record {
  usable = All-cons IsDefined o os (is-some o landed.value landed.is) more.usable;
  small =
      rw (most-cons o landed.value os landed.is, most-cons l a ls e, most-cons h b hs k)
      (greatest-of (nat_abs landed.value) (nat_abs a) (nat_abs b) (most os) (most ls) (most hs)
      (size-between landed.value a b landed.between) more.small);
}

all-nearby : (lists : Lists) → MoveOnce lists → (at : Inputs) (t : ℕ) (cells others : List Cell)
    → AreWithin t cells others → IsUsable (distortions lists at (lowered t cells))
    → IsUsable (distortions lists at (raised (pos t) cells))
    → AreBounded (distortions lists at (lowered t cells)) (distortions lists at (raised (pos t) cells))
    (distortions lists at others)
all-nearby lists once at t [] [] near low high =
    record { usable = All-nil IsDefined; small = omega arith }
all-nearby lists once at t [] (other ∷ others) near low high = absurd near
all-nearby lists once at t (cell ∷ cells) [] near low high = absurd near
all-nearby lists once at t (cell ∷ cells) (other ∷ others) near low high =
    let l = distortion lists at (raised_cell (neg_ℤ (pos t)) cell) in
    let h = distortion lists at (raised_cell (pos t) cell) in
    let ls = distortions lists at (lowered t cells) in
    let hs = distortions lists at (raised (pos t) cells) in
    some-of l (All-head IsDefined l ls low) (λ a e.
    some-of h (All-head IsDefined h hs high) (λ b k.
    one-more l h (distortion lists at other) ls hs (distortions lists at others) a b e k
    (nearby lists once at t cell other a b near.0 e k)
    (all-nearby lists once at t cells others near.1 (All-tail IsDefined l ls low)
    (All-tail IsDefined h hs high))))

raised-within : (t : ℕ) (cells : List Cell) → AreWithin t cells (raised (pos t) cells)
raised-within t [] = tt
raised-within t (cell ∷ cells) = (
  record {
    row = refl;
    col = refl;
    x = refl;
    y = refl;
    low = omega (arith, ints);
    high = omega (arith, ints);
  },
  raised-within t cells,
)

lowered-within : (t : ℕ) (cells : List Cell) → AreWithin t cells (lowered t cells)
lowered-within t [] = tt
lowered-within t (cell ∷ cells) = (
  record {
    row = refl;
    col = refl;
    x = refl;
    y = refl;
    low = omega (arith, ints);
    high = omega (arith, ints);
  },
  lowered-within t cells,
)

both-below : (found low high : ℕ) (v w n : ℤ) → pos low ≡ v → pos high ≡ w → v ≤ℤ n → w ≤ℤ n
    → found ≤ max low high → pos found ≤ℤ n
both-below found low high v w n e k h i small = omega (arith, ints, e, k, h, i, small)

-- the greater of both worsts holds over all lists
all-below : (lists : Lists) → MoveOnce lists → (at : Inputs) (cells : List Cell) (t : ℕ)
    (v w n : ℤ) (i j : ℕ) → worst_of (distortions lists at (lowered t cells)) ≡ worsts.Is v i
    → worst_of (distortions lists at (raised (pos t) cells)) ≡ worsts.Is w j → v ≤ℤ n → w ≤ℤ n
    → (others : List Cell) → AreWithin t cells others
    → IsAtMost n (worst_of (distortions lists at others))
all-below lists once at cells t v w n i j e k v-below w-below others near =
    let ls = distortions lists at (lowered t cells) in
    let hs = distortions lists at (raised (pos t) cells) in
    let all = all-nearby lists once at t cells others near (value-usable ls v i e)
    (value-usable hs w j k) in
    at-most (distortions lists at others) n all.usable
    (both-below (most (distortions lists at others)) (most ls) (most hs) v w n
    (value-most ls v i e) (value-most hs w j k) v-below w-below all.small)

second-above : (v w : ℤ) (i j : ℕ) → is_second v i w j ≡ true → v ≤ℤ w
second-above v w i j e = grind (arith, ints, nat_tests)

first-above : (v w : ℤ) (i j : ℕ) → is_second v i w j ≡ false → w ≤ℤ v
first-above v w i j e = grind (arith, ints, nat_tests)

pub slack-greatest : (lists : Lists) (at : Inputs) (cells : List Cell) (t : ℕ) → MoveOnce lists
    → IsGreatestOf lists at cells t (slack_over lists at cells t)
unfolding slack_over
slack-greatest lists at cells t once = by (worst_of ls) (worst_of hs) refl refl where
  ls : List (Option ℤ)
  ls = distortions lists at (lowered t cells)

  hs : List (Option ℤ)
  hs = distortions lists at (raised (pos t) cells)

  of_two : (v w : ℤ) (i j : ℕ) (second : Bool) → is_second v i w j ≡ second
      → worst_of ls ≡ worsts.Is v i → worst_of hs ≡ worsts.Is w j
      → IsGreatestOf lists at cells t (if second then Is w j High else Is v i Low)
  of_two v w i j true s e k = record {
    holds = all-below lists once at cells t v w w i j e k (second-above v w i j s)
        (omega (arith, ints));
    some = raised (pos t) cells;
    within = raised-within t cells;
    reached = has-worst (worst_of hs) w j k;
  }
  of_two v w i j false s e k = record {
    holds = all-below lists once at cells t v w v i j e k (omega (arith, ints))
        (first-above v w i j s);
    some = lowered t cells;
    within = lowered-within t cells;
    reached = has-worst (worst_of ls) v i e;
  }

  by : (low high : Worst) → worst_of ls ≡ low → worst_of hs ≡ high
      → IsGreatestOf lists at cells t (slack_from low high)
  by (worsts.Is v i) (worsts.Is w j) e k =
      of_two v w i j (is_second v i w j) refl e k
  by (worsts.Is v i) (worsts.Unusable j) e k = tt
  by (worsts.Unusable i) (worsts.Is w j) e k = tt
  by (worsts.Unusable i) (worsts.Unusable j) e k = tt

-- the distortions over prepared cells are those over the cells
prepared-same : (lists : Lists) (at : Inputs) (cells : List Cell)
    → distortions_of (prepared lists cells) at ≡ distortions lists at cells
unfolding distortions_of distortion distortion_in
prepared-same lists at cells =
    map-map (joined lists (value lists.design (design_inputs at))) (cell_results lists.cell) cells

distortions-over : (p : PreparedCells) (lists : Lists) (at : Inputs) (cells : List Cell)
    → p ≡ prepared lists cells → distortions_of p at ≡ distortions lists at cells
distortions-over p lists at cells e =
    ap (λ (q : PreparedCells). distortions_of q at) e ∙ prepared-same lists at cells

-- the slack from cells that were prepared at both heights
pub slack-over : (low high : PreparedCells) (at : Inputs) (cells : List Cell) (t : ℕ)
    (lw hw : Worst) (found : Slack) → found ≡ slack_from lw hw
    → lw ≡ worst_of (distortions_of low at) → hw ≡ worst_of (distortions_of high at)
    → low ≡ prepared low.lists (lowered t cells)
    → high ≡ prepared low.lists (raised (pos t) cells)
    → found ≡ slack_over low.lists at cells t
unfolding slack_over
slack-over low high at cells t lw hw found is e k l h =
    is
    ∙ ap (λ (w : Worst). slack_from w hw)
    (e ∙ ap worst_of (distortions-over low low.lists at (lowered t cells) l))
    ∙ ap (slack_from (worst_of (distortions low.lists at (lowered t cells))))
    (k ∙ ap worst_of (distortions-over high low.lists at (raised (pos t) cells) h))
