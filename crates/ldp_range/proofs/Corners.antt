-- Which corners of a product or a quotient are the least and the greatest.
use Rattle.std.proofs.Common.{◌≡◌, ◌∷◌, [], zero, suc, ◌*◌, ◌≤◌, ℤ, pos, negsuc, ◌≤ℤ◌, ◌<ℤ◌, Some}
use Rattle.std.proofs.Common.{if◌then◌else◌, refl, arith}
use Rattle.std.specs.Prelude.{int_le}
use Rattle.std.specs.Int.{int_min, int_max}
use Rattle.std.proofs.Math.IntN.{*ℤ_comm}
use Rattle.std.proofs.lemmas.Int.{ints, clamps, by_lt_z}
use Rattle.ldp_num.specs.Number.{number, one}
use Rattle.ldp_num.specs.Root.{root}
use Rattle.ldp_num.specs.Plain.{plain_mul, plain_div, plain_sqrt}
use Rattle.ldp_num.specs.Ranges.{ends, hull_of, pair_mul, pair_div}
use Rattle.ldp_range.specs.Choice.{of_both}
use Rattle.ldp_range.proofs.Orders.{product, product-up, product-down, product-right-up}
use Rattle.ldp_range.proofs.Orders.{product-right-down, quotient, quotient-up, quotient-down}
use Rattle.ldp_range.proofs.Orders.{quotient-rise, root-le}
use Rattle.ldp_range.proofs.Hulls.{number-ordered, hull-first-last, hull-first-third}
use Rattle.ldp_range.proofs.Hulls.{hull-second-last, hull-second-third, hull-third-first}
use Rattle.ldp_range.proofs.Hulls.{hull-last-first, hull-across}

-- the first where x is at least 0, else the second
abbrev pub choice : ℤ → ℤ → ℤ → ℤ
choice x a b = if int_le (pos 0) x then a else b

pub choice-first : (x a b : ℤ) → pos 0 ≤ℤ x → choice x a b ≡ a
choice-first (pos n) a b h = grind (arith, ints)
choice-first (negsuc n) a b h = absurd (omega (arith, ints))

pub choice-second : (x a b : ℤ) → x <ℤ pos 0 → choice x a b ≡ b
choice-second (pos n) a b h = absurd (omega (arith, ints))
choice-second (negsuc n) a b h = refl

le-from-lt : (a b : ℤ) → a <ℤ b → a ≤ℤ b
le-from-lt a b h = omega (arith, ints)

-- the second range is not below 0
pub scaled-is : (lo hi low high : ℤ) → lo ≤ℤ hi → low ≤ℤ high → pos 0 ≤ℤ low
    → ends (plain_mul lo (choice lo low high)) (plain_mul hi (choice hi high low))
    ≡ pair_mul (lo, hi) (low, high)
scaled-is lo hi low high h k l =
    let top : pos 0 ≤ℤ high = omega (arith, ints) in
    let left = product-up lo hi low h l in
    let right = product-up lo hi high h top in
    by_lt_z lo (pos 0)
    (λ n. let down = product-right-down lo low high k (le-from-lt lo (pos 0) n) in
    by_lt_z hi (pos 0)
    (λ m. rw (choice-second lo low high n, choice-second hi high low m)
    (hull-second-third _ _ _ _ down left right
    (product-right-down hi low high k (le-from-lt hi (pos 0) m))))
    (λ m. rw (choice-second lo low high n, choice-first hi high low m)
    (hull-second-last _ _ _ _ down left (product-right-up hi low high k m))))
    (λ n. let m : pos 0 ≤ℤ hi = omega (arith, ints) in
    rw (choice-first lo low high n, choice-first hi high low m)
    (hull-first-last _ _ _ _ (product-right-up lo low high k n) left right
    (product-right-up hi low high k m)))

pub scaled-ordered : (lo hi low high : ℤ) → lo ≤ℤ hi → low ≤ℤ high → pos 0 ≤ℤ low
    → product lo (choice lo low high) ≤ℤ product hi (choice hi high low)
scaled-ordered lo hi low high h k l =
    let top : pos 0 ≤ℤ high = omega (arith, ints) in
    let left = product-up lo hi low h l in
    let right = product-up lo hi high h top in
    by_lt_z lo (pos 0)
    (λ n. let down = product-right-down lo low high k (le-from-lt lo (pos 0) n) in
    by_lt_z hi (pos 0)
    (λ m. rw (choice-second lo low high n, choice-second hi high low m) (omega (arith, ints)))
    (λ m. rw (choice-second lo low high n, choice-first hi high low m) right))
    (λ n. let m : pos 0 ≤ℤ hi = omega (arith, ints) in
    let up = product-right-up lo low high k n in
    rw (choice-first lo low high n, choice-first hi high low m) (omega (arith, ints)))

-- the first range begins and the second ends at most at 0
pub turned-is : (lo hi low high : ℤ) → lo ≤ℤ hi → low ≤ℤ high → lo ≤ℤ pos 0 → high ≤ℤ pos 0
    → ends (plain_mul hi (choice hi low high)) (plain_mul lo low) ≡ pair_mul (lo, hi) (low, high)
turned-is lo hi low high h k l m =
    let bottom : low ≤ℤ pos 0 = omega (arith, ints) in
    let left = product-down lo hi low h bottom in
    let right = product-down lo hi high h m in
    let down = product-right-down lo low high k l in
    by_lt_z hi (pos 0)
    (λ n. rw (choice-second hi low high n)
    (hull-last-first _ _ _ _ right down (product-right-down hi low high k (le-from-lt hi (pos 0) n))
    left))
    (λ n. rw (choice-first hi low high n)
    (hull-third-first _ _ _ _ (product-right-up hi low high k n) right down))

pub turned-ordered : (lo hi low high : ℤ) → lo ≤ℤ hi → low ≤ℤ high → lo ≤ℤ pos 0 → high ≤ℤ pos 0
    → product hi (choice hi low high) ≤ℤ product lo low
turned-ordered lo hi low high h k l m =
    let bottom : low ≤ℤ pos 0 = omega (arith, ints) in
    let left = product-down lo hi low h bottom in
    let right = product-down lo hi high h m in
    let down = product-right-down lo low high k l in
    by_lt_z hi (pos 0)
    (λ n. rw (choice-second hi low high n) (omega (arith, ints)))
    (λ n. rw (choice-first hi low high n) left)

-- both ranges hold 0
pub across-is : (lo hi low high : ℤ) → lo ≤ℤ hi → low ≤ℤ high → lo ≤ℤ pos 0 → pos 0 ≤ℤ hi
    → low ≤ℤ pos 0 → pos 0 ≤ℤ high
    → ends (of_both int_min (plain_mul lo high) (plain_mul hi low))
    (of_both int_max (plain_mul lo low) (plain_mul hi high))
    ≡ pair_mul (lo, hi) (low, high)
across-is lo hi low high h k a b c d =
    hull-across _ _ _ _ (product-right-down lo low high k a) (product-up lo hi high h d)
    (product-down lo hi low h c)
    (product-right-up hi low high k b)

pub across-below : (lo hi low high : ℤ) → low ≤ℤ high → lo ≤ℤ pos 0
    → product lo high ≤ℤ product lo low
across-below lo hi low high k a = product-right-down lo low high k a

swapped : (p q r s : ℤ) → hull_of (number p ∷ number q ∷ number r ∷ number s ∷ [])
    ≡ hull_of (number p ∷ number r ∷ number q ∷ number s ∷ [])
swapped p q r s = grind (arith, ints, clamps)

-- a product of ranges in the other order
pub pair_mul-comm : (a b : ℤ × ℤ) → pair_mul a b ≡ pair_mul b a
pair_mul-comm a b = rw (*ℤ_comm a.0 b.0, *ℤ_comm a.0 b.1, *ℤ_comm a.1 b.0, *ℤ_comm a.1 b.1)
    (swapped (product b.0 a.0) (product b.1 a.0) (product b.0 a.1) (product b.1 a.1))

-- the quotient by a range above 0
pub divided-is : (lo hi low high : ℤ) → lo ≤ℤ hi → low ≤ℤ high → pos 1 ≤ℤ low
    → ends (plain_div lo (choice lo high low)) (plain_div hi (choice hi low high))
    ≡ pair_div (lo, hi) (low, high)
divided-is lo hi (pos (suc d)) (pos (suc e)) h k l =
    let m : suc d ≤ suc e = omega (arith, ints) in
    let left = quotient-up lo hi (suc d) (omega arith) h in
    let right = quotient-up lo hi (suc e) (omega arith) h in
    by_lt_z lo (pos 0)
    (λ n. let rise = quotient-rise lo (suc d) (suc e) (omega arith) m (le-from-lt lo (pos 0) n) in
    by_lt_z hi (pos 0)
    (λ w. rw (
      choice-second lo (pos (suc e)) (pos (suc d)) n,
      choice-second hi (pos (suc d)) (pos (suc e)) w,
    )
    (hull-first-last _ _ _ _ rise left right
    (quotient-rise hi (suc d) (suc e) (omega arith) m (le-from-lt hi (pos 0) w))))
    (λ w. rw (
      choice-second lo (pos (suc e)) (pos (suc d)) n,
      choice-first hi (pos (suc d)) (pos (suc e)) w,
    )
    (hull-first-third _ _ _ _ rise right (quotient-down hi (suc d) (suc e) (omega arith) m w))))
    (λ n. let w : pos 0 ≤ℤ hi = omega (arith, ints) in
    rw (
      choice-first lo (pos (suc e)) (pos (suc d)) n,
      choice-first hi (pos (suc d)) (pos (suc e)) w,
    )
    (hull-second-third _ _ _ _ (quotient-down lo (suc d) (suc e) (omega arith) m n) left right
    (quotient-down hi (suc d) (suc e) (omega arith) m w)))
divided-is lo hi (pos zero) high h k l = absurd (omega (arith, ints))
divided-is lo hi (negsuc d) high h k l = absurd (omega (arith, ints))
divided-is lo hi (pos (suc d)) (pos zero) h k l = absurd (omega (arith, ints))
divided-is lo hi (pos (suc d)) (negsuc e) h k l = absurd (omega (arith, ints))

pub divided-ordered : (lo hi low high : ℤ) → lo ≤ℤ hi → low ≤ℤ high → pos 1 ≤ℤ low → (l h : ℤ)
    → plain_div lo (choice lo high low) ≡ Some l → plain_div hi (choice hi low high) ≡ Some h
    → l ≤ℤ h
divided-ordered lo hi (pos (suc d)) (pos (suc e)) a b c l h =
    let m : suc d ≤ suc e = omega (arith, ints) in
    let left = quotient-up lo hi (suc d) (omega arith) a in
    let right = quotient-up lo hi (suc e) (omega arith) a in
    by_lt_z lo (pos 0)
    (λ n. let rise = quotient-rise lo (suc d) (suc e) (omega arith) m (le-from-lt lo (pos 0) n) in
    by_lt_z hi (pos 0)
    (λ w. rw (
      choice-second lo (pos (suc e)) (pos (suc d)) n,
      choice-second hi (pos (suc d)) (pos (suc e)) w,
    )
    (number-ordered (quotient lo (suc d)) (quotient hi (suc e)) (omega (arith, ints)) l h))
    (λ w. rw (
      choice-second lo (pos (suc e)) (pos (suc d)) n,
      choice-first hi (pos (suc d)) (pos (suc e)) w,
    )
    (number-ordered _ _ left l h)))
    (λ n. let w : pos 0 ≤ℤ hi = omega (arith, ints) in
    let down = quotient-down hi (suc d) (suc e) (omega arith) m w in
    rw (
      choice-first lo (pos (suc e)) (pos (suc d)) n,
      choice-first hi (pos (suc d)) (pos (suc e)) w,
    )
    (number-ordered (quotient lo (suc e)) (quotient hi (suc d)) (omega (arith, ints)) l h))
divided-ordered lo hi (pos zero) high a b c l h = absurd (omega (arith, ints))
divided-ordered lo hi (negsuc d) high a b c l h = absurd (omega (arith, ints))
divided-ordered lo hi (pos (suc d)) (pos zero) a b c l h = absurd (omega (arith, ints))
divided-ordered lo hi (pos (suc d)) (negsuc e) a b c l h = absurd (omega (arith, ints))

pub root-ordered : (a b : ℤ) → a ≤ℤ b → (l h : ℤ) → plain_sqrt a ≡ Some l → plain_sqrt b ≡ Some h
    → l ≤ℤ h
root-ordered (pos m) (pos n) k l h x y =
    let least : m * one ≤ n * one = omega (arith, ints) in
    let roots = root-le (m * one) (n * one) least in
    number-ordered (pos (root (m * one))) (pos (root (n * one))) (omega (arith, ints)) l h x y
root-ordered (pos m) (negsuc n) k l h x y = absurd (omega (arith, ints))
root-ordered (negsuc m) b k l h x y = cc
