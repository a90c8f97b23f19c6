-- Products on the two sides of an edge: a is how far east of its start a point lies, b how far
-- above, c and d are the run and the rise of the edge.
use Rattle.std.proofs.Common.{◌≡◌, suc, ◌*◌, ◌≤◌, Bool, true, false, ℤ, pos, negsuc, ◌-ℤ◌, ◌*ℤ◌}
use Rattle.std.proofs.Common.{◌≤ℤ◌, ◌<ℤ◌, int_lt, if◌then◌else◌, arith}
use Rattle.std.proofs.lemmas.Int.{ints}
use Rattle.std.proofs.Math.Nat.{mul-le-mul}
use Rattle.std.proofs.Math.IntN.{pos-*ℤ-pos, negsuc-*ℤ-negsuc, negsuc-*ℤ-pos, pos-*ℤ-negsuc}
use Rattle.ldp_zone.specs.Inside.{differ}

pub is_below : (a b : ℤ) → a <ℤ b → int_lt a b ≡ true
is_below a b h = grind (arith, ints)

pub not_below : (a b : ℤ) → b ≤ℤ a → int_lt a b ≡ false
not_below a b h = grind (arith, ints)

pub below : (a b : ℤ) → int_lt a b ≡ true → a <ℤ b
below a b h = grind (arith, ints)

pub at_most : (a b : ℤ) → int_lt a b ≡ false → b ≤ℤ a
at_most a b h = grind (arith, ints)

-- east of both ends of an edge that rises
east_rising : (a b c d : ℤ) → pos 0 ≤ℤ a → c ≤ℤ a → pos 0 ≤ℤ b → b ≤ℤ d → (b *ℤ c) ≤ℤ (a *ℤ d)
east_rising (pos m) (pos n) (pos k) (pos r) o p q s =
    let bound : n * k ≤ r * m = mul-le-mul (omega (arith, ints)) (omega (arith, ints)) in
    let e = pos-*ℤ-pos m r in
    let f = pos-*ℤ-pos n k in
    omega (arith, ints)
east_rising (pos m) (pos n) (negsuc k) (pos r) o p q s =
    let e = pos-*ℤ-pos m r in
    let f = pos-*ℤ-negsuc n k in
    omega (arith, ints)
east_rising (pos m) (pos n) c (negsuc r) o p q s = absurd (omega (arith, ints))
east_rising (pos m) (negsuc n) c d o p q s = absurd (omega (arith, ints))
east_rising (negsuc m) b c d o p q s = absurd (omega (arith, ints))

-- east of both ends of an edge that falls
east_falling : (a b c d : ℤ) → pos 0 ≤ℤ a → c ≤ℤ a → b <ℤ pos 0 → d ≤ℤ b → (a *ℤ d) ≤ℤ (b *ℤ c)
east_falling (pos m) (negsuc n) (pos k) (negsuc r) o p q s =
    let bound : suc n * k ≤ suc r * m = mul-le-mul (omega (arith, ints)) (omega (arith, ints)) in
    let e = pos-*ℤ-negsuc m r in
    let f = negsuc-*ℤ-pos n k in
    omega (arith, ints)
east_falling (pos m) (negsuc n) (negsuc k) (negsuc r) o p q s =
    let e = pos-*ℤ-negsuc m r in
    let f = negsuc-*ℤ-negsuc n k in
    omega (arith, ints)
east_falling (pos m) (negsuc n) c (pos r) o p q s = absurd (omega (arith, ints))
east_falling (pos m) (pos n) c d o p q s = absurd (omega (arith, ints))
east_falling (negsuc m) b c d o p q s = absurd (omega (arith, ints))

-- west of both ends of an edge that rises
west_rising : (a b c d : ℤ) → a <ℤ pos 0 → a <ℤ c → pos 0 ≤ℤ b → b <ℤ d → (a *ℤ d) <ℤ (b *ℤ c)
west_rising (negsuc m) (pos n) (pos k) (pos r) o p q s =
    let bound : 1 * 1 ≤ suc m * r = mul-le-mul {n₁ = 1} {m₁ = 1} {n₂ = suc m} {m₂ = r}
    (omega (arith, ints)) (omega (arith, ints)) in
    let e = negsuc-*ℤ-pos m r in
    let f = pos-*ℤ-pos n k in
    omega (arith, ints)
west_rising (negsuc m) (pos n) (negsuc k) (pos r) o p q s =
    let bound : suc n * suc k ≤ r * suc m = mul-le-mul (omega (arith, ints))
    (omega (arith, ints)) in
    let e = negsuc-*ℤ-pos m r in
    let f = pos-*ℤ-negsuc n k in
    omega (arith, ints)
west_rising (negsuc m) (pos n) c (negsuc r) o p q s = absurd (omega (arith, ints))
west_rising (negsuc m) (negsuc n) c d o p q s = absurd (omega (arith, ints))
west_rising (pos m) b c d o p q s = absurd (omega (arith, ints))

-- west of both ends of an edge that falls
west_falling : (a b c d : ℤ) → a <ℤ pos 0 → a <ℤ c → b <ℤ pos 0 → d ≤ℤ b → (b *ℤ c) <ℤ (a *ℤ d)
west_falling (negsuc m) (negsuc n) (pos k) (negsuc r) o p q s =
    let e = negsuc-*ℤ-negsuc m r in
    let f = negsuc-*ℤ-pos n k in
    omega (arith, ints)
west_falling (negsuc m) (negsuc n) (negsuc k) (negsuc r) o p q s =
    let bound : suc n * suc k ≤ suc r * m = mul-le-mul (omega (arith, ints))
    (omega (arith, ints)) in
    let e = negsuc-*ℤ-negsuc m r in
    let f = negsuc-*ℤ-negsuc n k in
    omega (arith, ints)
west_falling (negsuc m) (negsuc n) c (pos r) o p q s = absurd (omega (arith, ints))
west_falling (negsuc m) (pos n) c d o p q s = absurd (omega (arith, ints))
west_falling (pos m) b c d o p q s = absurd (omega (arith, ints))

-- whether the edge from (sx, sy) to (ex, ey) meets the height y east of x
abbrev pub meets : (x y sx sy ex ey : ℤ) → Bool
meets x y sx sy ex ey =
    if int_lt sy ey then int_lt ((x -ℤ sx) *ℤ (ey -ℤ sy)) ((y -ℤ sy) *ℤ (ex -ℤ sx))
    else int_lt ((y -ℤ sy) *ℤ (ex -ℤ sx)) ((x -ℤ sx) *ℤ (ey -ℤ sy))

-- an edge with both ends west of the point is not met east of it
pub meets_none : (x y sx sy ex ey : ℤ) (u v : Bool) → int_lt y sy ≡ u → int_lt y ey ≡ v
    → differ u v ≡ true
    → sx ≤ℤ x → ex ≤ℤ x → meets x y sx sy ex ey ≡ false
meets_none x y sx sy ex ey true true e f s h k = absurd cc
meets_none x y sx sy ex ey false false e f s h k = absurd cc
meets_none x y sx sy ex ey true false e f s h k =
    let high = below y sy e in
    let low = at_most y ey f in
    let falls : int_lt sy ey ≡ false = not_below sy ey (omega (arith, ints)) in
    let bound = east_falling (x -ℤ sx) (y -ℤ sy) (ex -ℤ sx) (ey -ℤ sy) (omega (arith, ints))
    (omega (arith, ints)) (omega (arith, ints)) (omega (arith, ints)) in
    rw falls (not_below ((y -ℤ sy) *ℤ (ex -ℤ sx)) ((x -ℤ sx) *ℤ (ey -ℤ sy)) bound)
meets_none x y sx sy ex ey false true e f s h k =
    let low = at_most y sy e in
    let high = below y ey f in
    let rises : int_lt sy ey ≡ true = is_below sy ey (omega (arith, ints)) in
    let bound = east_rising (x -ℤ sx) (y -ℤ sy) (ex -ℤ sx) (ey -ℤ sy) (omega (arith, ints))
    (omega (arith, ints)) (omega (arith, ints)) (omega (arith, ints)) in
    rw rises (not_below ((x -ℤ sx) *ℤ (ey -ℤ sy)) ((y -ℤ sy) *ℤ (ex -ℤ sx)) bound)

-- an edge with both ends east of the point is met east of it
pub meets_always : (x y sx sy ex ey : ℤ) (u v : Bool) → int_lt y sy ≡ u → int_lt y ey ≡ v
    → differ u v ≡ true
    → x <ℤ sx → x <ℤ ex → meets x y sx sy ex ey ≡ true
meets_always x y sx sy ex ey true true e f s h k = absurd cc
meets_always x y sx sy ex ey false false e f s h k = absurd cc
meets_always x y sx sy ex ey true false e f s h k =
    let high = below y sy e in
    let low = at_most y ey f in
    let falls : int_lt sy ey ≡ false = not_below sy ey (omega (arith, ints)) in
    let bound = west_falling (x -ℤ sx) (y -ℤ sy) (ex -ℤ sx) (ey -ℤ sy) (omega (arith, ints))
    (omega (arith, ints)) (omega (arith, ints)) (omega (arith, ints)) in
    rw falls (is_below ((y -ℤ sy) *ℤ (ex -ℤ sx)) ((x -ℤ sx) *ℤ (ey -ℤ sy)) bound)
meets_always x y sx sy ex ey false true e f s h k =
    let low = at_most y sy e in
    let high = below y ey f in
    let rises : int_lt sy ey ≡ true = is_below sy ey (omega (arith, ints)) in
    let bound = west_rising (x -ℤ sx) (y -ℤ sy) (ex -ℤ sx) (ey -ℤ sy) (omega (arith, ints))
    (omega (arith, ints)) (omega (arith, ints)) (omega (arith, ints)) in
    rw rises (is_below ((x -ℤ sx) *ℤ (ey -ℤ sy)) ((y -ℤ sy) *ℤ (ex -ℤ sx)) bound)
