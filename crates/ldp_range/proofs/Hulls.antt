-- The hull of corner results, by the order of the corners.
use Rattle.std.proofs.Common.{◌≡◌, ◌∷◌, [], ℤ, ◌≤ℤ◌, Some, arith}
use Rattle.std.proofs.lemmas.Int.{ints, clamps}
use Rattle.std.specs.Int.{int_min, int_max}
use Rattle.ldp_num.specs.Number.{number}
use Rattle.ldp_num.specs.Ranges.{ends, hull_of}
use Rattle.ldp_range.specs.Choice.{of_both}

-- numbers are in the order of what they are taken from
pub number-ordered : (a b : ℤ) → a ≤ℤ b → (l h : ℤ) → number a ≡ Some l → number b ≡ Some h → l ≤ℤ h
number-ordered a b k l h x y = grind (arith, ints)

pub hull-first-last : (p q r s : ℤ) → p ≤ℤ q → p ≤ℤ r → q ≤ℤ s → r ≤ℤ s
    → ends (number p) (number s) ≡ hull_of (number p ∷ number q ∷ number r ∷ number s ∷ [])
hull-first-last p q r s a b c d = grind (arith, ints, clamps)

pub hull-first-third : (p q r s : ℤ) → p ≤ℤ q → q ≤ℤ s → s ≤ℤ r
    → ends (number p) (number r) ≡ hull_of (number p ∷ number q ∷ number r ∷ number s ∷ [])
hull-first-third p q r s a b c = grind (arith, ints, clamps)

pub hull-second-last : (p q r s : ℤ) → q ≤ℤ p → p ≤ℤ r → r ≤ℤ s
    → ends (number q) (number s) ≡ hull_of (number p ∷ number q ∷ number r ∷ number s ∷ [])
hull-second-last p q r s a b c = grind (arith, ints, clamps)

pub hull-second-third : (p q r s : ℤ) → q ≤ℤ p → p ≤ℤ r → q ≤ℤ s → s ≤ℤ r
    → ends (number q) (number r) ≡ hull_of (number p ∷ number q ∷ number r ∷ number s ∷ [])
hull-second-third p q r s a b c d = grind (arith, ints, clamps)

pub hull-third-first : (p q r s : ℤ) → r ≤ℤ s → s ≤ℤ q → q ≤ℤ p
    → ends (number r) (number p) ≡ hull_of (number p ∷ number q ∷ number r ∷ number s ∷ [])
hull-third-first p q r s a b c = grind (arith, ints, clamps)

pub hull-third-second : (p q r s : ℤ) → r ≤ℤ p → r ≤ℤ s → p ≤ℤ q → s ≤ℤ q
    → ends (number r) (number q) ≡ hull_of (number p ∷ number q ∷ number r ∷ number s ∷ [])
hull-third-second p q r s a b c d = grind (arith, ints, clamps)

pub hull-last-first : (p q r s : ℤ) → s ≤ℤ q → q ≤ℤ p → s ≤ℤ r → r ≤ℤ p
    → ends (number s) (number p) ≡ hull_of (number p ∷ number q ∷ number r ∷ number s ∷ [])
hull-last-first p q r s a b c d = grind (arith, ints, clamps)

-- the second and the third are the lesser, the first and the last the greater
pub hull-across : (p q r s : ℤ) → q ≤ℤ p → q ≤ℤ s → r ≤ℤ p → r ≤ℤ s
    → ends (of_both int_min (number q) (number r)) (of_both int_max (number p) (number s))
    ≡ hull_of (number p ∷ number q ∷ number r ∷ number s ∷ [])
hull-across p q r s a b c d = grind (arith, ints, clamps)

pub across-ordered : (p q r s : ℤ) → q ≤ℤ p → (l h : ℤ)
    → of_both int_min (number q) (number r) ≡ Some l
    → of_both int_max (number p) (number s) ≡ Some h → l ≤ℤ h
across-ordered p q r s a l h x y = grind (arith, ints, clamps)
