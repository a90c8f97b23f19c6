-- Each operation on narrower ranges is within that on wider ones.
use Rattle.std.proofs.Common.{◌≡◌, [], ◌∷◌, Option, Some, option_map, ℤ, pos, refl, arith}
use Rattle.std.specs.Int.Signed.{≤ℤ_refl}
use Rattle.std.proofs.lemmas.Int.{ints, clamps, by_lt_z}
use Rattle.std.proofs.lemmas.Option.{same_Some}
use Rattle.ldp_num.specs.Plain.{plain_mul, plain_div, plain_sq}
use Rattle.ldp_num.specs.Ranges.{ends, hull_of, pair_add, pair_sub, pair_mul, pair_div, pair_sq}
use Rattle.ldp_num.specs.Ranges.{pair_sqrt, pair_need}
use Rattle.ldp_num.specs.Written.{range_ops}
use Rattle.ldp_range.specs.Related.{Reaches, FollowsOne, FollowsTwo, Follows}
use Rattle.ldp_range.specs.Range.{LiesIn, IsNarrower}
use Rattle.ldp_range.specs.Laws.{Isotony, StepIsotony}
use Rattle.ldp_range.proofs.Follows.{results_follow, values_follow}
use Rattle.ldp_range.proofs.Inclusion.{add-holds, sub-holds, mul-holds, div-holds, sq-holds}
use Rattle.ldp_range.proofs.Inclusion.{sqrt-holds, need-holds, le-true, le-false}
use Rattle.ldp_range.proofs.Ordered.{IsOrdered, add-ordered, sub-ordered, mul-ordered, div-ordered}
use Rattle.ldp_range.proofs.Ordered.{sq-ordered, sqrt-ordered, need-ordered}

-- both ends lie in the wider range
record EndsLieIn (narrow wide : ℤ × ℤ) : Type 0 where
  first : LiesIn narrow.0 wide
  last : LiesIn narrow.1 wide

low-in : (a b : ℤ × ℤ) → IsNarrower a b → LiesIn a.0 b
low-in a b h = record { low = h.low; high = omega (arith, ints, h.ordered, h.high) }

high-in : (a b : ℤ × ℤ) → IsNarrower a b → LiesIn a.1 b
high-in a b h = record { low = omega (arith, ints, h.low, h.ordered); high = h.high }

-- ends in the wider range, in order
narrower : (found : Option (ℤ × ℤ)) (t : ℤ × ℤ) → Reaches EndsLieIn found t
    → ((r : ℤ × ℤ) → found ≡ Some r → IsOrdered r) → Reaches IsNarrower found t
narrower found t h k = record {
  value = h.value;
  is = h.is;
  related = record {
    low = h.related.first.low;
    ordered = k h.value h.is;
    high =
        h.related.last.high;
  };
}

ends-in : (x y : Option ℤ) (t : ℤ × ℤ) → Reaches LiesIn x t → Reaches LiesIn y t
    → Reaches EndsLieIn (ends x y) t
ends-in x y t h k = record {
  value = (h.value, k.value);
  is = rw (h.is, k.is) refl;
  related = record { first = h.related; last = k.related };
}

hulled-in : (p q r s : ℤ) (t : ℤ × ℤ) → LiesIn p t → LiesIn q t → LiesIn r t → LiesIn s t
    → Reaches EndsLieIn (hull_of (Some p ∷ Some q ∷ Some r ∷ Some s ∷ [])) t
hulled-in p q r s t a b c d = record {
  value = _;
  is = refl;
  related = record {
    first = record {
      low = omega (arith, ints, clamps, a.low, b.low, c.low, d.low);
      high = omega (arith, ints, clamps, a.high, b.high, c.high, d.high);
    };
    last = record {
      low = omega (arith, ints, clamps, a.low, b.low, c.low, d.low);
      high = omega (arith, ints, clamps, a.high, b.high, c.high, d.high);
    };
  };
}

hull-in : (x y z w : Option ℤ) (t : ℤ × ℤ) → Reaches LiesIn x t → Reaches LiesIn y t
    → Reaches LiesIn z t → Reaches LiesIn w t
    → Reaches EndsLieIn (hull_of (x ∷ y ∷ z ∷ w ∷ [])) t
hull-in x y z w t a b c d =
    rw (a.is, b.is, c.is, d.is)
    (hulled-in a.value b.value c.value d.value t a.related b.related c.related d.related)

add-narrower : FollowsTwo IsNarrower pair_add pair_add
add-narrower a c b d t x y e =
    narrower (pair_add a c) t
    (ends-in _ _ t (add-holds a.0 c.0 b d t (low-in a b x) (low-in c d y) e)
    (add-holds a.1 c.1 b d t (high-in a b x) (high-in c d y) e))
    (λ r is. add-ordered a c r x.ordered y.ordered is)

sub-narrower : FollowsTwo IsNarrower pair_sub pair_sub
sub-narrower a c b d t x y e =
    narrower (pair_sub a c) t
    (ends-in _ _ t (sub-holds a.0 c.1 b d t (low-in a b x) (high-in c d y) e)
    (sub-holds a.1 c.0 b d t (high-in a b x) (low-in c d y) e))
    (λ r is. sub-ordered a c r x.ordered y.ordered is)

-- an operation by its four corners
corners-narrower : (f : ℤ → ℤ → Option ℤ) (g : ℤ × ℤ → ℤ × ℤ → Option (ℤ × ℤ))
    → FollowsTwo LiesIn f g
    → (a c b d t : ℤ × ℤ) → IsNarrower a b → IsNarrower c d → g b d ≡ Some t
    → Reaches EndsLieIn (hull_of (f a.0 c.0 ∷ f a.0 c.1 ∷ f a.1 c.0 ∷ f a.1 c.1 ∷ [])) t
corners-narrower f g holds a c b d t x y e =
    hull-in _ _ _ _ t
    (holds a.0 c.0 b d t (low-in a b x) (low-in c d y) e)
    (holds a.0 c.1 b d t (low-in a b x) (high-in c d y) e)
    (holds a.1 c.0 b d t (high-in a b x) (low-in c d y) e)
    (holds a.1 c.1 b d t (high-in a b x) (high-in c d y) e)

mul-narrower : FollowsTwo IsNarrower pair_mul pair_mul
mul-narrower a c b d t x y e =
    narrower (pair_mul a c) t (corners-narrower plain_mul pair_mul mul-holds a c b d t x y e)
    (λ r is. mul-ordered a c r is)

div-narrower : FollowsTwo IsNarrower pair_div pair_div
div-narrower a c b d t x y e =
    narrower (pair_div a c) t (corners-narrower plain_div pair_div div-holds a c b d t x y e)
    (λ r is. div-ordered a c r is)

zero-in : (p s : ℤ) (t : ℤ × ℤ) → LiesIn (pos 0) t → LiesIn p t → LiesIn s t
    → Reaches EndsLieIn
    (option_map {U = ℤ × ℤ} (λ r. (pos 0, r.1)) (hull_of (Some p ∷ Some s ∷ []))) t
zero-in p s t z a b = record {
  value = _;
  is = refl;
  related = record {
    first = z;
    last = record {
      low = omega (arith, ints, clamps, a.low, b.low);
      high =
          omega (arith, ints, clamps, a.high, b.high);
    };
  };
}

across-in : (x y : Option ℤ) (t : ℤ × ℤ) → LiesIn (pos 0) t → Reaches LiesIn x t
    → Reaches LiesIn y t
    → Reaches EndsLieIn (option_map {U = ℤ × ℤ} (λ r. (pos 0, r.1)) (hull_of (x ∷ y ∷ []))) t
across-in x y t z a b = rw (a.is, b.is) (zero-in a.value b.value t z a.related b.related)

-- the square of 0 lies in the square of a range that holds 0
zero-squared : (b t : ℤ × ℤ) → LiesIn (pos 0) b → pair_sq b ≡ Some t → LiesIn (pos 0) t
zero-squared b t h e =
    let r = sq-holds (pos 0) b t h e in
    rw (same_Some (pos 0) r.value r.is) r.related

square-in : (lo hi : ℤ) (b t : ℤ × ℤ) → IsNarrower (lo, hi) b → pair_sq b ≡ Some t
    → Reaches EndsLieIn (pair_sq (lo, hi)) t
square-in lo hi b t x e =
    let first = sq-holds lo b t (low-in (lo, hi) b x) e in
    let last = sq-holds hi b t (high-in (lo, hi) b x) e in
    by_lt_z lo (pos 0)
    (λ n. by_lt_z (pos 0) hi
    (λ m. rw (le-false (pos 0) lo n, le-false hi (pos 0) m)
    (across-in (plain_sq lo) (plain_sq hi) t
    (zero-squared b t
    (record { low = omega (arith, ints, x.low); high = omega (arith, ints, x.high) }) e) first
    last))
    (λ m. rw (le-false (pos 0) lo n, le-true hi (pos 0) m)
    (ends-in (plain_sq hi) (plain_sq lo) t last first)))
    (λ n. rw (le-true (pos 0) lo n) (ends-in (plain_sq lo) (plain_sq hi) t first last))

sq-narrower : FollowsOne IsNarrower pair_sq pair_sq
sq-narrower a b t x e =
    narrower (pair_sq a) t (square-in a.0 a.1 b t x e) (λ r is. sq-ordered a r x.ordered is)

sqrt-narrower : FollowsOne IsNarrower pair_sqrt pair_sqrt
sqrt-narrower a b t x e =
    narrower (pair_sqrt a) t
    (ends-in _ _ t (sqrt-holds a.0 b t (low-in a b x) e) (sqrt-holds a.1 b t (high-in a b x) e))
    (λ r is. sqrt-ordered a r x.ordered is)

need-narrower : FollowsOne IsNarrower pair_need pair_need
need-narrower a b t x e =
    narrower (pair_need a) t
    (ends-in _ _ t (need-holds a.0 b t (low-in a b x) e) (need-holds a.1 b t (high-in a b x) e))
    (λ r is. need-ordered a r x.ordered is)

ranges-are-narrower : Follows IsNarrower range_ops range_ops
ranges-are-narrower = record {
  constant = λ v. record { low = ≤ℤ_refl v; ordered = ≤ℤ_refl v; high = ≤ℤ_refl v };
  add = add-narrower;
  sub = sub-narrower;
  mul = mul-narrower;
  div = div-narrower;
  sq = sq-narrower;
  sqrt = sqrt-narrower;
  need = need-narrower;
}

pub isotony : Isotony
isotony = values_follow IsNarrower range_ops range_ops ranges-are-narrower

pub step-isotony : StepIsotony
step-isotony = results_follow IsNarrower range_ops range_ops ranges-are-narrower
