-- What a range is asked besides the operations of a formula. It is seen as the pair of its ends.
-- (Own choice of this project.)
use Rattle.std.specs.Prelude.{◌&&◌, ◌≤ℤ◌, int_le, ℤ, pos, if◌then◌else◌}
use Rattle.std.specs.Int.{int_min, int_max}
pub use Rattle.ldp_num.specs.Ranges.{magnitude, pair_high_abs}

-- the pair of equal ends
abbrev pub twice : ℤ → ℤ × ℤ
twice n = (n, n)

-- the number lies in the pair
pub record LiesIn (n : ℤ) (pair : ℤ × ℤ) : Type 0 where
  pub low : pair.0 ≤ℤ n
  pub high : n ≤ℤ pair.1

-- the range lies within the other
pub record IsNarrower (narrow wide : ℤ × ℤ) : Type 0 where
  pub low : wide.0 ≤ℤ narrow.0
  pub ordered : narrow.0 ≤ℤ narrow.1
  pub high : narrow.1 ≤ℤ wide.1

-- the least range that holds both
abbrev pub pair_hull : ℤ × ℤ → ℤ × ℤ → ℤ × ℤ
pair_hull a b = (int_min a.0 b.0, int_max a.1 b.1)

-- the least absolute value in the range
abbrev pub pair_low_abs : ℤ × ℤ → ℤ
pair_low_abs a =
    if int_le a.0 (pos 0) && int_le (pos 0) a.1 then pos 0
    else int_min (magnitude a.0) (magnitude a.1)
