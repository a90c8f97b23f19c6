-- Each operation on ranges that twins stand for gives one that the twin of the operation stands
-- for.
use Rattle.std.proofs.Common.{◌≡◌, [], ◌∷◌, Option, None, Some, option_map, ℤ, pos, ◌≤ℤ◌, ◌<ℤ◌, ◌⊎◌}
use Rattle.std.proofs.Common.{inl, inr, subst, sym, ap, ◌∙◌, refl, arith}
use Rattle.std.specs.Int.{int_min, int_max}
use Rattle.std.specs.Int.Signed.{≤ℤ_refl}
use Rattle.std.proofs.lemmas.Int.{ints, clamps, by_lt_z}
use Rattle.std.proofs.lemmas.Option.{same_Some}
use Rattle.ldp_num.specs.Number.{number}
use Rattle.ldp_num.specs.Plain.{plain_mul, plain_div, plain_sq}
use Rattle.ldp_num.specs.Ranges.{ends, hull_of, pair_add, pair_sub, pair_mul, pair_div, pair_sq}
use Rattle.ldp_num.specs.Ranges.{pair_sqrt, pair_need}
use Rattle.ldp_num.specs.Twins.{TwinPair, both, greater_of, twin_raised, twin_lowered, twin_corners}
use Rattle.ldp_num.specs.Twins.{nearest_squares, twin_add, twin_sub, twin_mul, twin_div, twin_sq}
use Rattle.ldp_num.specs.Twins.{twin_sqrt, twin_need}
use Rattle.ldp_num.specs.Written.{range_ops, twin_ops}
use Rattle.ldp_range.specs.Choice.{of_both}
use Rattle.ldp_range.specs.Related.{Reaches, FollowsOne, FollowsTwo, Follows}
use Rattle.ldp_range.specs.Range.{LiesIn}
use Rattle.ldp_range.specs.Twin.{IsHeld}
use Rattle.ldp_range.specs.Laws.{TwinInclusion, StepTwinInclusion}
use Rattle.ldp_range.proofs.Follows.{results_follow, values_follow}
use Rattle.ldp_range.proofs.Orders.{product, product-down, product-right-up, product-right-down}
use Rattle.ldp_range.proofs.Hulls.{hull-last-first, hull-third-first, hull-third-second}
use Rattle.ldp_range.proofs.Corners.{choice, choice-first, choice-second, scaled-is, divided-is}
use Rattle.ldp_range.proofs.Corners.{pair_mul-comm}
use Rattle.ldp_range.proofs.Inclusion.{add-holds, sub-holds, mul-holds, div-holds, sq-holds}
use Rattle.ldp_range.proofs.Inclusion.{sqrt-holds, need-holds, square-up, square-down, square-above}
use Rattle.ldp_range.proofs.Inclusion.{le-true, le-false}
use Rattle.ldp_range.proofs.Ordered.{IsOrdered, add-ordered, sub-ordered, mul-ordered, div-ordered}
use Rattle.ldp_range.proofs.Ordered.{sq-ordered, sqrt-ordered, need-ordered}
use Rattle.ldp_range.proofs.Signs.{if-at-most, greater-split, greater-in, greater-left}
use Rattle.ldp_range.proofs.Signs.{greater-right, lesser-reaches, greater-reaches, least-holds}
use Rattle.ldp_range.proofs.Signs.{greatest-holds, mul-turns, div-turns}

split-both : (p q : Option (ℤ × ℤ)) (t : TwinPair) → both p q ≡ Some t
    → (p ≡ Some t.0) × (q ≡ Some t.1)
split-both (Some p) (Some q) t e =
    let same = same_Some (p, q) t e in
    (ap (λ s. Some s.0) same, ap (λ s. Some s.1) same)
split-both (Some p) None t e = cc
split-both None q t e = cc

-- a range whose low end lies in the one and whose high end lies in the other
held : (x y : Option ℤ) (found : Option (ℤ × ℤ)) (t : TwinPair) → ends x y ≡ found
    → Reaches LiesIn x t.0 → Reaches LiesIn y t.1
    → ((r : ℤ × ℤ) → found ≡ Some r → IsOrdered r) → Reaches IsHeld found t
held x y found t same a b ordered =
    let whole : ends x y ≡ Some (a.value, b.value) = rw (a.is, b.is) refl in
    let is = sym same ∙ whole in
    record {
      value = (a.value, b.value);
      is = is;
      related = record {
        ordered = ordered (a.value, b.value) is;
        low = a.related;
        high =
            b.related;
      };
    }

add-held : FollowsTwo IsHeld pair_add twin_add
add-held a c b d t x y e =
    let s = split-both (pair_add b.0 d.0) (pair_add b.1 d.1) t e in
    held _ _ (pair_add a c) t refl (add-holds a.0 c.0 b.0 d.0 t.0 x.low y.low s.0)
    (add-holds a.1 c.1 b.1 d.1 t.1 x.high y.high s.1)
    (λ r is. add-ordered a c r x.ordered y.ordered is)

sub-held : FollowsTwo IsHeld pair_sub twin_sub
sub-held a c b d t x y e =
    let s = split-both (pair_sub b.0 d.1) (pair_sub b.1 d.0) t e in
    held _ _ (pair_sub a c) t refl (sub-holds a.0 c.1 b.0 d.1 t.0 x.low y.high s.0)
    (sub-holds a.1 c.0 b.1 d.0 t.1 x.high y.low s.1)
    (λ r is. sub-ordered a c r x.ordered y.ordered is)

raised-held : (a c : ℤ × ℤ) (b d t : TwinPair) → IsHeld a b → IsHeld c d → pos 0 ≤ℤ d.0.0
    → twin_raised b d ≡ Some t
    → Reaches IsHeld (pair_mul a c) t
raised-held a c b d t x y n e =
    let s = split-both _ _ t e in
    held _ _ (pair_mul a c) t
    (scaled-is a.0 a.1 c.0 c.1 x.ordered y.ordered (omega (arith, ints, y.low.low)))
    (least-holds plain_mul pair_mul mul-holds a.0 c.0 c.1 b.0 d.0 d.1 t.0
    (mul-turns a.0 c.0 c.1 y.ordered) x.low y.low y.high s.0)
    (greatest-holds plain_mul pair_mul mul-holds a.1 c.0 c.1 b.1 d.0 d.1 t.1
    (mul-turns a.1 c.0 c.1 y.ordered) x.high y.low y.high s.1)
    (λ r is. mul-ordered a c r is)

-- the second range is not above 0
lowered-is : (lo hi low high : ℤ) → lo ≤ℤ hi → low ≤ℤ high → high ≤ℤ pos 0
    → ends (plain_mul hi (choice hi low high)) (plain_mul lo (choice lo high low))
    ≡ pair_mul (lo, hi) (low, high)
lowered-is lo hi low high h k l =
    let bottom : low ≤ℤ pos 0 = omega (arith, ints) in
    let left = product-down lo hi low h bottom in
    let right = product-down lo hi high h l in
    by_lt_z hi (pos 0)
    (λ n. let m : lo <ℤ pos 0 = omega (arith, ints) in
    rw (choice-second hi low high n, choice-second lo high low m)
    (hull-last-first (product lo low) (product lo high) (product hi low) (product hi high) right
    (product-right-down lo low high k (omega (arith, ints)))
    (product-right-down hi low high k (omega (arith, ints))) left))
    (λ n. let up = product-right-up hi low high k n in
    by_lt_z lo (pos 0)
    (λ m. rw (choice-first hi low high n, choice-second lo high low m)
    (hull-third-first (product lo low) (product lo high) (product hi low) (product hi high) up right
    (product-right-down lo low high k (omega (arith, ints)))))
    (λ m. rw (choice-first hi low high n, choice-first lo high low m)
    (hull-third-second (product lo low) (product lo high) (product hi low) (product hi high) left up
    (product-right-up lo low high k m) right)))

lowered-held : (a c : ℤ × ℤ) (b d t : TwinPair) → IsHeld a b → IsHeld c d → d.1.1 ≤ℤ pos 0
    → twin_lowered b d ≡ Some t
    → Reaches IsHeld (pair_mul a c) t
lowered-held a c b d t x y n e =
    let s = split-both _ _ t e in
    held _ _ (pair_mul a c) t
    (lowered-is a.0 a.1 c.0 c.1 x.ordered y.ordered (omega (arith, ints, y.high.high)))
    (least-holds plain_mul pair_mul mul-holds a.1 c.0 c.1 b.1 d.0 d.1 t.0
    (mul-turns a.1 c.0 c.1 y.ordered) x.high y.low y.high s.0)
    (greatest-holds plain_mul pair_mul mul-holds a.0 c.0 c.1 b.0 d.0 d.1 t.1
    (mul-turns a.0 c.0 c.1 y.ordered) x.low y.low y.high s.1)
    (λ r is. mul-ordered a c r is)

least-four : (p q r s : ℤ)
    → int_min (int_min p q) (int_min r s) ≡ int_min p (int_min q (int_min r s))
least-four p q r s = omega (arith, ints, clamps)

greatest-four : (p q r s : ℤ)
    → int_max (int_max p q) (int_max r s) ≡ int_max p (int_max q (int_max r s))
greatest-four p q r s = omega (arith, ints, clamps)

hull-four : (p q r s : Option ℤ)
    → ends (of_both int_min (of_both int_min p q) (of_both int_min r s))
    (of_both int_max (of_both int_max p q) (of_both int_max r s))
    ≡ hull_of (p ∷ q ∷ r ∷ s ∷ [])
hull-four (Some p) (Some q) (Some r) (Some s) = rw (least-four p q r s, greatest-four p q r s) refl
hull-four (Some p) (Some q) (Some r) None = refl
hull-four (Some p) (Some q) None s = refl
hull-four (Some p) None r s = refl
hull-four None q r s = refl

corners-held : (a c : ℤ × ℤ) (b d t : TwinPair) → IsHeld a b → IsHeld c d
    → twin_corners b d ≡ Some t → Reaches IsHeld (pair_mul a c) t
corners-held a c b d t x y e =
    let s = split-both _ _ t e in
    let first : (p : ℤ × ℤ) → pair_mul b.0 d.0 ≡ Some p → Reaches LiesIn (plain_mul a.0 c.0) p =
    λ p is. mul-holds a.0 c.0 b.0 d.0 p x.low y.low is in
    let second : (p : ℤ × ℤ) → pair_mul b.0 d.1 ≡ Some p → Reaches LiesIn (plain_mul a.0 c.1) p =
    λ p is. mul-holds a.0 c.1 b.0 d.1 p x.low y.high is in
    let third : (p : ℤ × ℤ) → pair_mul b.1 d.0 ≡ Some p → Reaches LiesIn (plain_mul a.1 c.0) p =
    λ p is. mul-holds a.1 c.0 b.1 d.0 p x.high y.low is in
    let last : (p : ℤ × ℤ) → pair_mul b.1 d.1 ≡ Some p → Reaches LiesIn (plain_mul a.1 c.1) p =
    λ p is. mul-holds a.1 c.1 b.1 d.1 p x.high y.high is in
    held _ _ (pair_mul a c) t
    (hull-four (plain_mul a.0 c.0) (plain_mul a.0 c.1) (plain_mul a.1 c.0) (plain_mul a.1 c.1))
    (lesser-reaches _ _ _ _ t.0 (λ p is. lesser-reaches _ _ _ _ p first second is)
    (λ p is. lesser-reaches _ _ _ _ p third last is) s.0)
    (greater-reaches _ _ _ _ t.1 (λ p is. greater-reaches _ _ _ _ p first second is)
    (λ p is. greater-reaches _ _ _ _ p third last is) s.1)
    (λ r is. mul-ordered a c r is)

turned : (a c : ℤ × ℤ) (t : TwinPair) → Reaches IsHeld (pair_mul c a) t
    → Reaches IsHeld (pair_mul a c) t
turned a c t h = subst (λ found. Reaches IsHeld found t) (pair_mul-comm c a) h

mul-held : FollowsTwo IsHeld pair_mul twin_mul
mul-held a c b d t x y e =
    if-at-most (pos 0) d.0.0 (twin_raised b d) _ (Some t) e
    (λ n is. raised-held a c b d t x y n is)
    (λ _ e1. if-at-most d.1.1 (pos 0) (twin_lowered b d) _ (Some t) e1
    (λ n is. lowered-held a c b d t x y n is)
    (λ _ e2. if-at-most (pos 0) b.0.0 (twin_raised d b) _ (Some t) e2
    (λ n is. turned a c t (raised-held c a d b t y x n is))
    (λ _ e3. if-at-most b.1.1 (pos 0) (twin_lowered d b) (twin_corners b d) (Some t) e3
    (λ n is. turned a c t (lowered-held c a d b t y x n is))
    (λ _ is. corners-held a c b d t x y is))))

div-held : FollowsTwo IsHeld pair_div twin_div
div-held a c b d t x y e =
    if-at-most d.0.0 (pos 0) None _ (Some t) e
    (λ _ is. cc)
    (λ n is. let s = split-both _ _ t is in
    let above : pos 1 ≤ℤ c.0 = omega (arith, ints, y.low.low) in
    held _ _ (pair_div a c) t (divided-is a.0 a.1 c.0 c.1 x.ordered y.ordered above)
    (least-holds plain_div pair_div div-holds a.0 c.1 c.0 b.0 d.1 d.0 t.0
    (div-turns a.0 c.1 c.0 y.ordered above) x.low y.high y.low s.0)
    (greatest-holds plain_div pair_div div-holds a.1 c.1 c.0 b.1 d.1 d.0 t.1
    (div-turns a.1 c.1 c.0 y.ordered above) x.high y.high y.low s.1)
    (λ r m. div-ordered a c r m))

-- the square of a range, by the signs of its ends
natural-square : (lo hi : ℤ) → pos 0 ≤ℤ lo → ends (plain_sq lo) (plain_sq hi) ≡ pair_sq (lo, hi)
natural-square lo hi n = rw (le-true (pos 0) lo n) refl

negative-square : (lo hi : ℤ) → lo ≤ℤ hi → hi ≤ℤ pos 0
    → ends (plain_sq hi) (plain_sq lo) ≡ pair_sq (lo, hi)
negative-square lo hi h m =
    by_lt_z lo (pos 0)
    (λ n. rw (le-false (pos 0) lo n, le-true hi (pos 0) m) refl)
    (λ n. let same : lo ≡ hi = omega (arith, ints) in
    rw (same, le-true (pos 0) hi (omega (arith, ints))) refl)

across-square : (lo hi v w : ℤ) → lo <ℤ pos 0 → pos 0 <ℤ hi → plain_sq lo ≡ Some v
    → plain_sq hi ≡ Some w
    → pair_sq (lo, hi) ≡ Some (pos 0, int_max v w)
across-square lo hi v w n m a b = rw (le-false (pos 0) lo n, le-false hi (pos 0) m, a, b) refl

number-value : (z v : ℤ) → number z ≡ Some v → z ≡ v
number-value z v e = grind (arith, ints)

-- from 0 to the greater of two squares
record Nearest (p q : ℤ) (t : ℤ × ℤ) : Type 0 where
  low : t.0 ≡ pos 0
  first : p ≤ℤ t.1
  second : q ≤ℤ t.1

nearest : (p q : ℤ) (t : ℤ × ℤ) → option_map {U = ℤ × ℤ} (λ r. (pos 0, r.1))
    (hull_of (number p ∷ number q ∷ [])) ≡ Some t → Nearest p q t
nearest p q t e = record {
  low = grind (arith, ints, clamps);
  first = grind (arith, ints, clamps);
  second = grind (arith, ints, clamps);
}

square-near : (m p q : ℤ) (t : ℤ × ℤ) → Nearest p q t → pos 0 ≤ℤ m → (m ≤ℤ p) ⊎ (m ≤ℤ q)
    → LiesIn m t
square-near m p q t h k (inl l) =
    record { low = omega (arith, ints, h.low); high = omega (arith, ints, h.first) }
square-near m p q t h k (inr l) =
    record { low = omega (arith, ints, h.low); high = omega (arith, ints, h.second) }

across-held : (lo hi : ℤ) (b t : TwinPair) → IsHeld (lo, hi) b → nearest_squares b ≡ Some t.0
    → greater_of (pair_sq b.0) (pair_sq b.1) ≡ Some t.1
    → Reaches IsHeld (pair_sq (lo, hi)) t
across-held lo hi b t x e f =
    greater-split (pair_sq b.0) (pair_sq b.1) t.1 f (λ p q left right whole.
    let v = sq-holds lo b.0 p x.low left in
    let w = sq-holds hi b.1 q x.high right in
    let above = int_max b.0.1 (pos 0) in
    let below = int_min b.1.0 (pos 0) in
    let near = nearest (product above above) (product below below) t.0 e in
    let top = greater-in v.value w.value p q t.1 v.related w.related whole in
    let first = number-value (product lo lo) v.value v.is in
    let last = number-value (product hi hi) w.value w.is in
    by_lt_z lo (pos 0)
    (λ n. by_lt_z (pos 0) hi
    (λ m. record {
      value = (pos 0, int_max v.value w.value);
      is = across-square lo hi v.value w.value n m v.is w.is;
      related = record {
        ordered = omega (arith, ints, clamps, square-above lo, first);
        low = square-near (pos 0) _ _ t.0 near (≤ℤ_refl (pos 0)) (inl (square-above above));
        high = top;
      };
    })
    (λ m. let rise = square-down lo hi x.ordered m in
    let order : w.value ≤ℤ v.value = omega (arith, ints, rise, first, last) in
    held _ _ (pair_sq (lo, hi)) t (negative-square lo hi x.ordered m)
    (record {
      value = w.value;
      is = w.is;
      related = subst (λ z. LiesIn z t.0) last
          (square-near (product hi hi) _ _ t.0 near (square-above hi)
          (inr (square-down below hi (omega (arith, ints, clamps, x.high.low)) m)));
    })
    (record {
      value = v.value;
      is = v.is;
      related = rw (greater-left v.value w.value order) top;
    })
    (λ r is. sq-ordered (lo, hi) r x.ordered is)))
    (λ n. let rise = square-up lo hi n x.ordered in
    let order : v.value ≤ℤ w.value = omega (arith, ints, rise, first, last) in
    held _ _ (pair_sq (lo, hi)) t (natural-square lo hi n)
    (record {
      value = v.value;
      is = v.is;
      related = subst (λ z. LiesIn z t.0) first
          (square-near (product lo lo) _ _ t.0 near (square-above lo)
          (inl (square-up lo above n (omega (arith, ints, clamps, x.low.high)))));
    })
    (record {
      value = w.value;
      is = w.is;
      related = rw (greater-right v.value w.value order) top;
    })
    (λ r is. sq-ordered (lo, hi) r x.ordered is)))

sq-held : FollowsOne IsHeld pair_sq twin_sq
sq-held a b t x e =
    if-at-most (pos 0) b.0.0 (both (pair_sq b.0) (pair_sq b.1)) _ (Some t) e
    (λ n is. let s = split-both (pair_sq b.0) (pair_sq b.1) t is in
    held _ _ (pair_sq a) t (natural-square a.0 a.1 (omega (arith, ints, x.low.low)))
    (sq-holds a.0 b.0 t.0 x.low s.0) (sq-holds a.1 b.1 t.1 x.high s.1)
    (λ r m. sq-ordered a r x.ordered m))
    (λ _ rest. if-at-most b.1.1 (pos 0) (both (pair_sq b.1) (pair_sq b.0))
    (both (nearest_squares b) (greater_of (pair_sq b.0) (pair_sq b.1))) (Some t) rest
    (λ n is. let s = split-both (pair_sq b.1) (pair_sq b.0) t is in
    held _ _ (pair_sq a) t (negative-square a.0 a.1 x.ordered (omega (arith, ints, x.high.high)))
    (sq-holds a.1 b.1 t.0 x.high s.0) (sq-holds a.0 b.0 t.1 x.low s.1)
    (λ r m. sq-ordered a r x.ordered m))
    (λ _ is. let s = split-both (nearest_squares b) (greater_of (pair_sq b.0) (pair_sq b.1)) t is in
    across-held a.0 a.1 b t x s.0 s.1))

sqrt-held : FollowsOne IsHeld pair_sqrt twin_sqrt
sqrt-held a b t x e =
    let s = split-both (pair_sqrt b.0) (pair_sqrt b.1) t e in
    held _ _ (pair_sqrt a) t refl (sqrt-holds a.0 b.0 t.0 x.low s.0)
    (sqrt-holds a.1 b.1 t.1 x.high s.1)
    (λ r is. sqrt-ordered a r x.ordered is)

need-held : FollowsOne IsHeld pair_need twin_need
need-held a b t x e =
    let s = split-both (pair_need b.0) (pair_need b.1) t e in
    held _ _ (pair_need a) t refl (need-holds a.0 b.0 t.0 x.low s.0)
    (need-holds a.1 b.1 t.1 x.high s.1)
    (λ r is. need-ordered a r x.ordered is)

ranges-are-held : Follows IsHeld range_ops twin_ops
ranges-are-held = record {
  constant = λ v. let only : LiesIn v (v, v) =
      record { low = ≤ℤ_refl v; high = ≤ℤ_refl v } in record {
        ordered = ≤ℤ_refl v;
        low =
            only;
        high = only;
      };
  add = add-held;
  sub = sub-held;
  mul = mul-held;
  div = div-held;
  sq = sq-held;
  sqrt = sqrt-held;
  need = need-held;
}

pub twin-inclusion : TwinInclusion
twin-inclusion = values_follow IsHeld range_ops twin_ops ranges-are-held

pub step-twin-inclusion : StepTwinInclusion
step-twin-inclusion = results_follow IsHeld range_ops twin_ops ranges-are-held
