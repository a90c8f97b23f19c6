use Rattle.std.proofs.Common.{◌≡◌, [], ◌∷◌, Option, None, Some, option_map, ℤ, pos, refl}
use Rattle.std.specs.Int.{int_max}
use Rattle.ldp_num.specs.Number.{IsNumber}
use Rattle.ldp_num.specs.Ranges.{hull_of}
use Rattle.ldp_range.specs.Choice.{of_both}
use Rattle.ldp_range.proofs.Casts.{number-passed}
use Rattle.ldp_range.proofs.twin_square.nearest.Goals as goal

greater-of : (x y : Option ℤ)
    → option_map {U = ℤ × ℤ} (λ h. (pos 0, h)) (of_both int_max x y)
    ≡ option_map {U = ℤ × ℤ} (λ r. (pos 0, r.1)) (hull_of (x ∷ y ∷ []))
greater-of (Some p) (Some q) = refl
greater-of (Some p) None = refl
greater-of None y = refl

pub returns : goal.returns
returns c =
    let high : IsNumber c.hi.result = rw c.hi.ensures.value c.hi.ensures.range.high_number in
    let low : IsNumber c.lo.result = rw c.lo.ensures.value c.lo.ensures.range.low_number in
    let above = rw (number-passed c.hi.result high, c.hi.ensures.value, c.low.ensures) at
    c.greater-above.ensures.value in
    let below = rw (number-passed c.lo.result low, c.lo.ensures.value, c.high.ensures) at
    c.lesser-below.ensures.value in
    let first = rw (number-passed c.greater-above.result c.greater-above.ensures.number, above) at
    c.sq.ensures.value in
    let second = rw (number-passed c.lesser-below.result c.lesser-below.ensures.number, below) at
    c.sq-2.ensures.value in
    rw (c.paired.ensures, c.greatest_of.ensures.value, first, second) (greater-of _ _)
