-- Slopes at a point: which slopes within given pairs give the least and the greatest sum, and how
-- the slopes of a result go with those of its operands.
use Rattle.std.proofs.Common.{◌≡◌, List, [], ◌∷◌, ℤ, pos, negsuc, ◌+ℤ◌, ◌-ℤ◌, ◌*ℤ◌, ◌≤ℤ◌, refl, arith}
use Rattle.std.specs.Prelude.{unsigned_abs, neg_ℤ}
use Rattle.std.specs.Int.{int_min, int_max}
use Rattle.std.specs.Int.Signed.{≤ℤ_refl}
use Rattle.std.proofs.Math.IntN.{*ℤ_comm}
use Rattle.std.proofs.lemmas.Int.{ints, clamps, by_lt_z}
use Rattle.ldp_num.specs.Number.{one}
use Rattle.ldp_num.proofs.Ring.{times_sum, sum_times, times_negated, times_up, times_down, times_cancel}
use Rattle.ldp_num.proofs.Ring.{times_swap, times_associate}
use Rattle.ldp_range.specs.Range.{LiesIn}
use Rattle.ldp_range.specs.Related.{Pairwise}
use Rattle.ldp_centred.specs.Soundness.{least_sum, greatest_sum, AreBounds, InOrder}

-- what the slopes ps give at a point
abbrev pub given : List ℤ → List ℤ → ℤ
given [] ts = pos 0
given (p ∷ ps) [] = pos 0
given (p ∷ ps) (t ∷ ts) = (p *ℤ t) +ℤ given ps ts

-- some slopes within their pairs that give this
record Chosen (xs : List (ℤ × ℤ)) (ts : List ℤ) (sum : ℤ) : Type 0 where
  slopes : List ℤ
  within : Pairwise LiesIn slopes xs
  gives : given slopes ts ≡ sum

low-within : (x : ℤ × ℤ) → x.0 ≤ℤ x.1 → LiesIn x.0 x
low-within x h = record { low = ≤ℤ_refl x.0; high = h }

high-within : (x : ℤ × ℤ) → x.0 ≤ℤ x.1 → LiesIn x.1 x
high-within x h = record { low = h; high = ≤ℤ_refl x.1 }

least-chosen : (xs : List (ℤ × ℤ)) (ts : List ℤ) → InOrder xs → Chosen xs ts (least_sum xs ts)
least-chosen [] ts h = record { slopes = []; within = tt; gives = refl }
least-chosen (x ∷ xs) [] h =
    let rest = least-chosen xs [] h.1 in
    record {
      slopes = x.0 ∷ rest.slopes;
      within = (low-within x h.0, rest.within);
      gives = refl;
    }
least-chosen (x ∷ xs) (t ∷ ts) h =
    let rest = least-chosen xs ts h.1 in
    let gives = rest.gives in
    by_lt_z (x.1 *ℤ t) (x.0 *ℤ t)
    (λ less. record {
      slopes = x.1 ∷ rest.slopes;
      within = (high-within x h.0, rest.within);
      gives = omega (arith, ints, clamps);
    })
    (λ most. record {
      slopes = x.0 ∷ rest.slopes;
      within = (low-within x h.0, rest.within);
      gives = omega (arith, ints, clamps);
    })

greatest-chosen : (xs : List (ℤ × ℤ)) (ts : List ℤ) → InOrder xs → Chosen xs ts (greatest_sum xs ts)
greatest-chosen [] ts h = record { slopes = []; within = tt; gives = refl }
greatest-chosen (x ∷ xs) [] h =
    let rest = greatest-chosen xs [] h.1 in
    record {
      slopes = x.0 ∷ rest.slopes;
      within = (low-within x h.0, rest.within);
      gives = refl;
    }
greatest-chosen (x ∷ xs) (t ∷ ts) h =
    let rest = greatest-chosen xs ts h.1 in
    let gives = rest.gives in
    by_lt_z (x.0 *ℤ t) (x.1 *ℤ t)
    (λ less. record {
      slopes = x.1 ∷ rest.slopes;
      within = (high-within x h.0, rest.within);
      gives = omega (arith, ints, clamps);
    })
    (λ most. record {
      slopes = x.0 ∷ rest.slopes;
      within = (low-within x h.0, rest.within);
      gives = omega (arith, ints, clamps);
    })

-- slopes that hold a * x from below or from above, up to the error
record Below (a x e : ℤ) (xs : List (ℤ × ℤ)) (ts : List ℤ) : Type 0 where
  slopes : List ℤ
  within : Pairwise LiesIn slopes xs
  holds : (a *ℤ given slopes ts) ≤ℤ ((a *ℤ x) +ℤ (pos (unsigned_abs a) *ℤ e))

record Above (a x e : ℤ) (xs : List (ℤ × ℤ)) (ts : List ℤ) : Type 0 where
  slopes : List ℤ
  within : Pairwise LiesIn slopes xs
  holds : (a *ℤ x) ≤ℤ ((a *ℤ given slopes ts) +ℤ (pos (unsigned_abs a) *ℤ e))

scaled-up : (k : ℤ) (x y e : ℤ) → pos 0 ≤ℤ k → x ≤ℤ (y +ℤ e)
    → (k *ℤ x) ≤ℤ ((k *ℤ y) +ℤ (k *ℤ e))
scaled-up k x y e n h =
    let up = times_up x (y +ℤ e) k h n in
    omega (arith, ints, *ℤ_comm x k, *ℤ_comm (y +ℤ e) k, times_sum k y e)

opposite : (k : ℤ) (x y e : ℤ) → k ≤ℤ pos 0 → x ≤ℤ (y +ℤ e)
    → (k *ℤ y) ≤ℤ ((k *ℤ x) +ℤ (neg_ℤ k *ℤ e))
opposite k x y e n h =
    let down = times_down x (y +ℤ e) k h n in
    omega (
      arith,
      ints,
      *ℤ_comm x k,
      *ℤ_comm (y +ℤ e) k,
      times_sum k y e,
      *ℤ_comm (neg_ℤ k) e,
      times_negated e k,
      *ℤ_comm e k,
    )

below-chosen : (a x e : ℤ) (xs : List (ℤ × ℤ)) (ts : List ℤ) → InOrder xs → AreBounds xs ts x e
    → Below a x e xs ts
below-chosen (pos k) x e xs ts order bounds =
    let least = least-chosen xs ts order in
    let from : given least.slopes ts ≤ℤ (x +ℤ e) =
    omega (arith, ints, least.gives, bounds.low) in
    record {
      slopes = least.slopes;
      within = least.within;
      holds = scaled-up (pos k) (given least.slopes ts) x e (omega (arith, ints)) from;
    }
below-chosen (negsuc k) x e xs ts order bounds =
    let greatest = greatest-chosen xs ts order in
    let from : x ≤ℤ (given greatest.slopes ts +ℤ e) =
    omega (arith, ints, greatest.gives, bounds.high) in
    record {
      slopes = greatest.slopes;
      within = greatest.within;
      holds = opposite (negsuc k) x (given greatest.slopes ts) e (omega (arith, ints)) from;
    }

above-chosen : (a x e : ℤ) (xs : List (ℤ × ℤ)) (ts : List ℤ) → InOrder xs → AreBounds xs ts x e
    → Above a x e xs ts
above-chosen (pos k) x e xs ts order bounds =
    let greatest = greatest-chosen xs ts order in
    let from : x ≤ℤ (given greatest.slopes ts +ℤ e) =
    omega (arith, ints, greatest.gives, bounds.high) in
    record {
      slopes = greatest.slopes;
      within = greatest.within;
      holds = scaled-up (pos k) x (given greatest.slopes ts) e (omega (arith, ints)) from;
    }
above-chosen (negsuc k) x e xs ts order bounds =
    let least = least-chosen xs ts order in
    let from : given least.slopes ts ≤ℤ (x +ℤ e) =
    omega (arith, ints, least.gives, bounds.low) in
    record {
      slopes = least.slopes;
      within = least.within;
      holds = opposite (negsuc k) (given least.slopes ts) x e (omega (arith, ints)) from;
    }

-- a pair s of slopes of a result: n times it holds a * p + b * q for all slopes p and q of the
-- operands
pub record Corner (n a b : ℤ) (s x y : ℤ × ℤ) : Type 0 where
  pub low : (p q : ℤ) → LiesIn p x → LiesIn q y → (n *ℤ s.0) ≤ℤ ((a *ℤ p) +ℤ (b *ℤ q))
  pub high : (p q : ℤ) → LiesIn p x → LiesIn q y → ((a *ℤ p) +ℤ (b *ℤ q)) ≤ℤ (n *ℤ s.1)

-- the same of each pair of three lists
abbrev pub Cornered : ℤ → ℤ → ℤ → List (ℤ × ℤ) → List (ℤ × ℤ) → List (ℤ × ℤ) → Type 0
Cornered n a b [] [] [] = Unit {0}
Cornered n a b [] [] (y ∷ ys) = ⊥
Cornered n a b [] (x ∷ xs) ys = ⊥
Cornered n a b (s ∷ ss) [] ys = ⊥
Cornered n a b (s ∷ ss) (x ∷ xs) [] = ⊥
Cornered n a b (s ∷ ss) (x ∷ xs) (y ∷ ys) = Corner n a b s x y × Cornered n a b ss xs ys

-- one place: (a * p + b * q) * t, by the sign of t
place-low : (n a b p q t l h : ℤ) → pos 0 ≤ℤ n
    → (n *ℤ l) ≤ℤ ((a *ℤ p) +ℤ (b *ℤ q)) → ((a *ℤ p) +ℤ (b *ℤ q)) ≤ℤ (n *ℤ h)
    → (n *ℤ int_min (l *ℤ t) (h *ℤ t)) ≤ℤ ((a *ℤ (p *ℤ t)) +ℤ (b *ℤ (q *ℤ t)))
place-low n a b p q t l h natural low high =
    let spread = sum_times (a *ℤ p) (b *ℤ q) t in
    let first = times_associate a p t in
    let second = times_associate b q t in
    let least : int_min (l *ℤ t) (h *ℤ t) ≤ℤ (l *ℤ t) = omega (arith, ints, clamps) in
    let last : int_min (l *ℤ t) (h *ℤ t) ≤ℤ (h *ℤ t) = omega (arith, ints, clamps) in
    by_lt_z t (pos 0)
    (λ m. let down = times_down ((a *ℤ p) +ℤ (b *ℤ q)) (n *ℤ h) t high (omega (arith, ints)) in
    let up = scaled-up n (int_min (l *ℤ t) (h *ℤ t)) (h *ℤ t) (pos 0) natural
    (omega (arith, ints)) in
    let same = times_associate n h t in
    let nothing = *ℤ_comm n (pos 0) in
    omega (arith, ints))
    (λ m. let up = times_up (n *ℤ l) ((a *ℤ p) +ℤ (b *ℤ q)) t low m in
    let more = scaled-up n (int_min (l *ℤ t) (h *ℤ t)) (l *ℤ t) (pos 0) natural
    (omega (arith, ints)) in
    let same = times_associate n l t in
    let nothing = *ℤ_comm n (pos 0) in
    omega (arith, ints))

place-high : (n a b p q t l h : ℤ) → pos 0 ≤ℤ n
    → (n *ℤ l) ≤ℤ ((a *ℤ p) +ℤ (b *ℤ q)) → ((a *ℤ p) +ℤ (b *ℤ q)) ≤ℤ (n *ℤ h)
    → ((a *ℤ (p *ℤ t)) +ℤ (b *ℤ (q *ℤ t))) ≤ℤ (n *ℤ int_max (l *ℤ t) (h *ℤ t))
place-high n a b p q t l h natural low high =
    let spread = sum_times (a *ℤ p) (b *ℤ q) t in
    let first = times_associate a p t in
    let second = times_associate b q t in
    let nothing = *ℤ_comm n (pos 0) in
    by_lt_z t (pos 0)
    (λ m. let down = times_down (n *ℤ l) ((a *ℤ p) +ℤ (b *ℤ q)) t low (omega (arith, ints)) in
    let up = scaled-up n (l *ℤ t) (int_max (l *ℤ t) (h *ℤ t)) (pos 0) natural
    (omega (arith, ints, clamps)) in
    let same = times_associate n l t in
    omega (arith, ints))
    (λ m. let up = times_up ((a *ℤ p) +ℤ (b *ℤ q)) (n *ℤ h) t high m in
    let more = scaled-up n (h *ℤ t) (int_max (l *ℤ t) (h *ℤ t)) (pos 0) natural
    (omega (arith, ints, clamps)) in
    let same = times_associate n h t in
    omega (arith, ints))

-- all places
sums-low : (n a b : ℤ) (ss xs ys : List (ℤ × ℤ)) (ps qs ts : List ℤ) → pos 0 ≤ℤ n
    → Cornered n a b ss xs ys → Pairwise LiesIn ps xs → Pairwise LiesIn qs ys
    → (n *ℤ least_sum ss ts) ≤ℤ ((a *ℤ given ps ts) +ℤ (b *ℤ given qs ts))
sums-low n a b [] [] [] [] [] ts natural corners in_x in_y =
    omega (arith, ints, *ℤ_comm n (pos 0), *ℤ_comm a (pos 0), *ℤ_comm b (pos 0))
sums-low n a b (s ∷ ss) (x ∷ xs) (y ∷ ys) (p ∷ ps) (q ∷ qs) [] natural corners in_x in_y =
    omega (arith, ints, *ℤ_comm n (pos 0), *ℤ_comm a (pos 0), *ℤ_comm b (pos 0))
sums-low n a b (s ∷ ss) (x ∷ xs) (y ∷ ys) (p ∷ ps) (q ∷ qs) (t ∷ ts) natural corners in_x in_y =
    let place = place-low n a b p q t s.0 s.1 natural
    (corners.0.low p q in_x.0 in_y.0) (corners.0.high p q in_x.0 in_y.0) in
    let rest = sums-low n a b ss xs ys ps qs ts natural corners.1 in_x.1 in_y.1 in
    omega (
      arith,
      ints,
      times_sum n (int_min (s.0 *ℤ t) (s.1 *ℤ t)) (least_sum ss ts),
      times_sum a (p *ℤ t) (given ps ts),
      times_sum b (q *ℤ t) (given qs ts),
    )
sums-low n a b [] [] [] [] (q ∷ qs) ts natural corners in_x in_y = absurd in_y
sums-low n a b [] [] [] (p ∷ ps) qs ts natural corners in_x in_y = absurd in_x
sums-low n a b [] [] (y ∷ ys) ps qs ts natural corners in_x in_y = absurd corners
sums-low n a b [] (x ∷ xs) ys ps qs ts natural corners in_x in_y = absurd corners
sums-low n a b (s ∷ ss) [] ys ps qs ts natural corners in_x in_y = absurd corners
sums-low n a b (s ∷ ss) (x ∷ xs) [] ps qs ts natural corners in_x in_y = absurd corners
sums-low n a b (s ∷ ss) (x ∷ xs) (y ∷ ys) [] qs ts natural corners in_x in_y = absurd in_x
sums-low n a b (s ∷ ss) (x ∷ xs) (y ∷ ys) (p ∷ ps) [] ts natural corners in_x in_y = absurd in_y

sums-high : (n a b : ℤ) (ss xs ys : List (ℤ × ℤ)) (ps qs ts : List ℤ) → pos 0 ≤ℤ n
    → Cornered n a b ss xs ys → Pairwise LiesIn ps xs → Pairwise LiesIn qs ys
    → ((a *ℤ given ps ts) +ℤ (b *ℤ given qs ts)) ≤ℤ (n *ℤ greatest_sum ss ts)
sums-high n a b [] [] [] [] [] ts natural corners in_x in_y =
    omega (arith, ints, *ℤ_comm n (pos 0), *ℤ_comm a (pos 0), *ℤ_comm b (pos 0))
sums-high n a b (s ∷ ss) (x ∷ xs) (y ∷ ys) (p ∷ ps) (q ∷ qs) [] natural corners in_x in_y =
    omega (arith, ints, *ℤ_comm n (pos 0), *ℤ_comm a (pos 0), *ℤ_comm b (pos 0))
sums-high n a b (s ∷ ss) (x ∷ xs) (y ∷ ys) (p ∷ ps) (q ∷ qs) (t ∷ ts) natural corners in_x in_y =
    let place = place-high n a b p q t s.0 s.1 natural
    (corners.0.low p q in_x.0 in_y.0) (corners.0.high p q in_x.0 in_y.0) in
    let rest = sums-high n a b ss xs ys ps qs ts natural corners.1 in_x.1 in_y.1 in
    omega (
      arith,
      ints,
      times_sum n (int_max (s.0 *ℤ t) (s.1 *ℤ t)) (greatest_sum ss ts),
      times_sum a (p *ℤ t) (given ps ts),
      times_sum b (q *ℤ t) (given qs ts),
    )
sums-high n a b [] [] [] [] (q ∷ qs) ts natural corners in_x in_y = absurd in_y
sums-high n a b [] [] [] (p ∷ ps) qs ts natural corners in_x in_y = absurd in_x
sums-high n a b [] [] (y ∷ ys) ps qs ts natural corners in_x in_y = absurd corners
sums-high n a b [] (x ∷ xs) ys ps qs ts natural corners in_x in_y = absurd corners
sums-high n a b (s ∷ ss) [] ys ps qs ts natural corners in_x in_y = absurd corners
sums-high n a b (s ∷ ss) (x ∷ xs) [] ps qs ts natural corners in_x in_y = absurd corners
sums-high n a b (s ∷ ss) (x ∷ xs) (y ∷ ys) [] qs ts natural corners in_x in_y = absurd in_x
sums-high n a b (s ∷ ss) (x ∷ xs) (y ∷ ys) (p ∷ ps) [] ts natural corners in_x in_y = absurd in_y

-- an operand: its slopes in order, and away from its centre by x, up to e
pub record Tells (slopes : List (ℤ × ℤ)) (ts : List ℤ) (x e : ℤ) : Type 0 where
  pub ordered : InOrder slopes
  pub bounds : AreBounds slopes ts (pos one *ℤ x) (pos one *ℤ e)

-- what is to be shown of a result that is away from its centre by z, up to g
pub low-kept : (n a b x y e f z g : ℤ) (ss xs ys : List (ℤ × ℤ)) (ts : List ℤ) → pos 1 ≤ℤ n
    → Cornered n a b ss xs ys → Tells xs ts x e → Tells ys ts y f
    → (((a *ℤ x) +ℤ (b *ℤ y)) +ℤ ((pos (unsigned_abs a) *ℤ e) +ℤ (pos (unsigned_abs b) *ℤ f)))
    ≤ℤ (n *ℤ (z +ℤ g))
    → least_sum ss ts ≤ℤ ((pos one *ℤ z) +ℤ (pos one *ℤ g))
low-kept n a b x y e f z g ss xs ys ts positive corners left right h =
    let p = below-chosen a (pos one *ℤ x) (pos one *ℤ e) xs ts left.ordered left.bounds in
    let q = below-chosen b (pos one *ℤ y) (pos one *ℤ f) ys ts right.ordered right.bounds in
    let all = sums-low n a b ss xs ys p.slopes q.slopes ts (omega (arith, ints)) corners p.within
    q.within in
    let first = p.holds in
    let second = q.holds in
    times_cancel _ _ n positive
    (omega (
      arith,
      ints,
      *ℤ_comm n (least_sum ss ts),
      *ℤ_comm n ((pos one *ℤ z) +ℤ (pos one *ℤ g)),
      times_sum n (pos one *ℤ z) (pos one *ℤ g),
      times_sum n z g,
      times_swap n (pos one) z,
      times_swap n (pos one) g,
      times_swap a (pos one) x,
      times_swap b (pos one) y,
      times_swap (pos (unsigned_abs a)) (pos one) e,
      times_swap (pos (unsigned_abs b)) (pos one) f,
    ))

pub high-kept : (n a b x y e f z g : ℤ) (ss xs ys : List (ℤ × ℤ)) (ts : List ℤ) → pos 1 ≤ℤ n
    → Cornered n a b ss xs ys → Tells xs ts x e → Tells ys ts y f
    → (n *ℤ z)
    ≤ℤ (((a *ℤ x) +ℤ (b *ℤ y))
    +ℤ ((n *ℤ g) -ℤ ((pos (unsigned_abs a) *ℤ e) +ℤ (pos (unsigned_abs b) *ℤ f))))
    → (pos one *ℤ z) ≤ℤ (greatest_sum ss ts +ℤ (pos one *ℤ g))
high-kept n a b x y e f z g ss xs ys ts positive corners left right h =
    let p = above-chosen a (pos one *ℤ x) (pos one *ℤ e) xs ts left.ordered left.bounds in
    let q = above-chosen b (pos one *ℤ y) (pos one *ℤ f) ys ts right.ordered right.bounds in
    let all = sums-high n a b ss xs ys p.slopes q.slopes ts (omega (arith, ints)) corners p.within
    q.within in
    let first = p.holds in
    let second = q.holds in
    times_cancel _ _ n positive
    (omega (
      arith,
      ints,
      *ℤ_comm n (pos one *ℤ z),
      *ℤ_comm n (greatest_sum ss ts +ℤ (pos one *ℤ g)),
      times_sum n (greatest_sum ss ts) (pos one *ℤ g),
      times_swap n (pos one) z,
      times_swap n (pos one) g,
      times_swap a (pos one) x,
      times_swap b (pos one) y,
      times_swap (pos (unsigned_abs a)) (pos one) e,
      times_swap (pos (unsigned_abs b)) (pos one) f,
    ))

-- slopes of a result are in order
pub ordered-kept : (n a b : ℤ) (ss xs ys : List (ℤ × ℤ)) → pos 1 ≤ℤ n → Cornered n a b ss xs ys
    → InOrder xs → InOrder ys → InOrder ss
ordered-kept n a b [] [] [] positive corners left right = tt
ordered-kept n a b (s ∷ ss) (x ∷ xs) (y ∷ ys) positive corners left right =
    let low = corners.0.low x.0 y.0 (low-within x left.0) (low-within y right.0) in
    let high = corners.0.high x.0 y.0 (low-within x left.0) (low-within y right.0) in (
      times_cancel s.0 s.1 n positive (omega (arith, ints, *ℤ_comm n s.0, *ℤ_comm n s.1)),
      ordered-kept n a b ss xs ys positive corners.1 left.1 right.1,
    )
ordered-kept n a b [] [] (y ∷ ys) positive corners left right = absurd corners
ordered-kept n a b [] (x ∷ xs) ys positive corners left right = absurd corners
ordered-kept n a b (s ∷ ss) [] ys positive corners left right = absurd corners
ordered-kept n a b (s ∷ ss) (x ∷ xs) [] positive corners left right = absurd corners
