-- The result of each operation on ranges has its ends in order.
use Rattle.std.proofs.Common.{◌≡◌, ◌+ℤ◌, ◌-ℤ◌, ◌≤ℤ◌, [], ◌∷◌, Option, None, Some, option_map, ℤ}
use Rattle.std.proofs.Common.{pos, negsuc, refl, arith}
use Rattle.std.proofs.lemmas.Int.{ints, clamps, by_lt_z}
use Rattle.ldp_num.specs.Number.{number}
use Rattle.ldp_num.specs.Plain.{plain_need}
use Rattle.ldp_num.specs.Ranges.{ends, hull_of, pair_add, pair_sub, pair_mul, pair_div, pair_sq}
use Rattle.ldp_num.specs.Ranges.{pair_sqrt, pair_need}
use Rattle.ldp_range.proofs.Orders.{product}
use Rattle.ldp_range.proofs.Hulls.{number-ordered}
use Rattle.ldp_range.proofs.Corners.{root-ordered}
use Rattle.ldp_range.proofs.Inclusion.{le-true, le-false, square-up, square-down, square-above}

abbrev pub IsOrdered : ℤ × ℤ → Type 0
IsOrdered a = a.0 ≤ℤ a.1

ends-ordered : (x y : Option ℤ) → ((l h : ℤ) → x ≡ Some l → y ≡ Some h → l ≤ℤ h) → (t : ℤ × ℤ)
    → ends x y ≡ Some t → IsOrdered t
ends-ordered (Some l) (Some h) k t e = let m = k l h refl refl in grind (arith, ints)
ends-ordered (Some l) None k t e = cc
ends-ordered None y k t e = cc

corners-ordered : (p q r s : Option ℤ) (t : ℤ × ℤ) → hull_of (p ∷ q ∷ r ∷ s ∷ []) ≡ Some t
    → IsOrdered t
corners-ordered (Some p) (Some q) (Some r) (Some s) t e = grind (arith, ints, clamps)
corners-ordered (Some p) (Some q) (Some r) None t e = cc
corners-ordered (Some p) (Some q) None s t e = cc
corners-ordered (Some p) None r s t e = cc
corners-ordered None q r s t e = cc

pub add-ordered : (a c t : ℤ × ℤ) → IsOrdered a → IsOrdered c → pair_add a c ≡ Some t → IsOrdered t
add-ordered a c t h k e =
    ends-ordered _ _ (number-ordered (a.0 +ℤ c.0) (a.1 +ℤ c.1) (omega (arith, ints))) t e

pub sub-ordered : (a c t : ℤ × ℤ) → IsOrdered a → IsOrdered c → pair_sub a c ≡ Some t → IsOrdered t
sub-ordered a c t h k e =
    ends-ordered _ _ (number-ordered (a.0 -ℤ c.1) (a.1 -ℤ c.0) (omega (arith, ints))) t e

pub mul-ordered : (a c t : ℤ × ℤ) → pair_mul a c ≡ Some t → IsOrdered t
mul-ordered a c t e = corners-ordered _ _ _ _ t e

pub div-ordered : (a c t : ℤ × ℤ) → pair_div a c ≡ Some t → IsOrdered t
div-ordered a c t e = corners-ordered _ _ _ _ t e

across-ordered : (p s : ℤ) (t : ℤ × ℤ) → pos 0 ≤ℤ p
    → option_map {U = ℤ × ℤ} (λ r. (pos 0, r.1)) (hull_of (number p ∷ number s ∷ [])) ≡ Some t
    → IsOrdered t
across-ordered p s t h e = grind (arith, ints, clamps)

square-ordered : (lo hi : ℤ) (t : ℤ × ℤ) → lo ≤ℤ hi → pair_sq (lo, hi) ≡ Some t → IsOrdered t
square-ordered lo hi t h e =
    by_lt_z lo (pos 0)
    (λ n. by_lt_z (pos 0) hi
    (λ m. across-ordered (product lo lo) (product hi hi) t (square-above lo)
    (rw (le-false (pos 0) lo n, le-false hi (pos 0) m) at e))
    (λ m. ends-ordered _ _ (number-ordered (product hi hi) (product lo lo) (square-down lo hi h m))
    t
    (rw (le-false (pos 0) lo n, le-true hi (pos 0) m) at e)))
    (λ n. ends-ordered _ _ (number-ordered (product lo lo) (product hi hi) (square-up lo hi n h)) t
    (rw (le-true (pos 0) lo n) at e))

pub sq-ordered : (a t : ℤ × ℤ) → IsOrdered a → pair_sq a ≡ Some t → IsOrdered t
sq-ordered a t h e = square-ordered a.0 a.1 t h e

pub sqrt-ordered : (a t : ℤ × ℤ) → IsOrdered a → pair_sqrt a ≡ Some t → IsOrdered t
sqrt-ordered a t h e = ends-ordered _ _ (root-ordered a.0 a.1 h) t e

need-same : (a : ℤ) (t : ℤ) → plain_need a ≡ Some t → a ≡ t
need-same (pos a) t e = cc
need-same (negsuc a) t e = cc

pub need-ordered : (a t : ℤ × ℤ) → IsOrdered a → pair_need a ≡ Some t → IsOrdered t
need-ordered a t h e =
    ends-ordered _ _ (λ l m x y. rw (← need-same a.0 l x, ← need-same a.1 m y) h) t e
