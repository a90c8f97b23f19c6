-- The row of a place.
use Rattle.std.proofs.Common.{ℕ, ◌*◌, ◌/◌, ◌<◌, ◌≤◌, arith}
use Rattle.std.proofs.Math.Nat.{div-lt_iff_lt-mul}

pub row_within : (place cols rows : ℕ) → 1 ≤ cols → place < cols * rows → place / cols < rows
row_within place cols rows some h =
    let within : place < rows * cols = omega arith in
    (div-lt_iff_lt-mul {k = cols} {x = place} {y = rows} (omega arith)).1 within
