-- The operations on twins. A twin is two ranges: the first holds the low ends, the second the high
-- ends of a number of ranges, and stands for them all. (Own choice of this project.)
use Rattle.std.specs.Prelude.{int_le, ℤ, pos, [], ◌∷◌, Option, None, option_map, option_and_then}
use Rattle.std.specs.Prelude.{if◌then◌else◌}
use Rattle.std.specs.Int.{int_min, int_max}
use Rattle.ldp_num.specs.Plain.{plain_sq}
use Rattle.ldp_num.specs.Ranges.{hull_of, pair_add, pair_sub, pair_mul, pair_div, pair_sq}
use Rattle.ldp_num.specs.Ranges.{pair_sqrt, pair_need}

-- the range of the low ends, and that of the high ends
abbrev pub TwinPair : Type 0
TwinPair = (ℤ × ℤ) × (ℤ × ℤ)

-- both ranges, where both are defined
abbrev pub both : Option (ℤ × ℤ) → Option (ℤ × ℤ) → Option TwinPair
both lows highs = option_and_then (λ l. option_map (λ h. (l, h)) highs) lows

-- where the lesser of a number of each range lies
abbrev pub lesser_of : Option (ℤ × ℤ) → Option (ℤ × ℤ) → Option (ℤ × ℤ)
lesser_of x y =
    option_and_then (λ a. option_map (λ b. (int_min a.0 b.0, int_min a.1 b.1)) y) x

-- where the greater of a number of each range lies
abbrev pub greater_of : Option (ℤ × ℤ) → Option (ℤ × ℤ) → Option (ℤ × ℤ)
greater_of x y =
    option_and_then (λ a. option_map (λ b. (int_max a.0 b.0, int_max a.1 b.1)) y) x

-- the sum
abbrev pub twin_add : TwinPair → TwinPair → Option TwinPair
twin_add a b = both (pair_add a.0 b.0) (pair_add a.1 b.1)

-- the difference: low ends less high ends, and high ends less low ends
abbrev pub twin_sub : TwinPair → TwinPair → Option TwinPair
twin_sub a b = both (pair_sub a.0 b.1) (pair_sub a.1 b.0)

-- of two results at x: the first where no number of x is below 0, the second where none is above,
-- else what join makes of both
abbrev pub by_signs : (Option (ℤ × ℤ) → Option (ℤ × ℤ) → Option (ℤ × ℤ)) → ℤ × ℤ
    → Option (ℤ × ℤ) → Option (ℤ × ℤ) → Option (ℤ × ℤ)
by_signs join x first second =
    if int_le (pos 0) x.0 then first
    else if int_le x.1 (pos 0) then second
    else join first second

-- the product with a twin b whose ranges are not below 0
abbrev pub twin_raised : TwinPair → TwinPair → Option TwinPair
twin_raised a b =
    both (by_signs lesser_of a.0 (pair_mul a.0 b.0) (pair_mul a.0 b.1))
    (by_signs greater_of a.1 (pair_mul a.1 b.1) (pair_mul a.1 b.0))

-- the product with a twin b whose ranges are not above 0
abbrev pub twin_lowered : TwinPair → TwinPair → Option TwinPair
twin_lowered a b =
    both (by_signs lesser_of a.1 (pair_mul a.1 b.0) (pair_mul a.1 b.1))
    (by_signs greater_of a.0 (pair_mul a.0 b.1) (pair_mul a.0 b.0))

-- the product by all four pairs of ends
abbrev pub twin_corners : TwinPair → TwinPair → Option TwinPair
twin_corners a b =
    let low_low = pair_mul a.0 b.0 in
    let low_high = pair_mul a.0 b.1 in
    let high_low = pair_mul a.1 b.0 in
    let high_high = pair_mul a.1 b.1 in
    both (lesser_of (lesser_of low_low low_high) (lesser_of high_low high_high))
    (greater_of (greater_of low_low low_high) (greater_of high_low high_high))

-- the product, by the signs of b, else by those of a, else by all ends
abbrev pub twin_mul : TwinPair → TwinPair → Option TwinPair
twin_mul a b =
    if int_le (pos 0) b.0.0 then twin_raised a b
    else if int_le b.1.1 (pos 0) then twin_lowered a b
    else if int_le (pos 0) a.0.0 then twin_raised b a
    else if int_le a.1.1 (pos 0) then twin_lowered b a
    else twin_corners a b

-- the quotient, defined where the divisor's low ends are above 0
abbrev pub twin_div : TwinPair → TwinPair → Option TwinPair
twin_div a b =
    if int_le b.0.0 (pos 0) then None
    else both (by_signs lesser_of a.0 (pair_div a.0 b.1) (pair_div a.0 b.0))
    (by_signs greater_of a.1 (pair_div a.1 b.0) (pair_div a.1 b.1))

-- of a twin whose ranges may hold 0, where the least square in one of them lies: from 0 to the
-- greatest that it may be
abbrev pub nearest_squares : TwinPair → Option (ℤ × ℤ)
nearest_squares a =
    option_map (λ r. (pos 0, r.1))
    (hull_of (plain_sq (int_max a.0.1 (pos 0)) ∷ plain_sq (int_min a.1.0 (pos 0)) ∷ []))

-- the square
abbrev pub twin_sq : TwinPair → Option TwinPair
twin_sq a =
    if int_le (pos 0) a.0.0 then both (pair_sq a.0) (pair_sq a.1)
    else if int_le a.1.1 (pos 0) then both (pair_sq a.1) (pair_sq a.0)
    else both (nearest_squares a) (greater_of (pair_sq a.0) (pair_sq a.1))

-- the square root
abbrev pub twin_sqrt : TwinPair → Option TwinPair
twin_sqrt a = both (pair_sqrt a.0) (pair_sqrt a.1)

-- the twin itself, where none of its numbers is below 0
abbrev pub twin_need : TwinPair → Option TwinPair
twin_need a = both (pair_need a.0) (pair_need a.1)
