-- What a twin of ranges stands for, and what it is asked besides the operations of a formula. It is
-- seen as the pair of its ranges. (Own choice of this project.)
use Rattle.std.specs.Prelude.{◌≤ℤ◌, ℤ, pos, ◌-ℤ◌}
use Rattle.std.specs.Int.{int_max}
use Rattle.ldp_num.specs.Twins.{TwinPair}
use Rattle.ldp_range.specs.Range.{twice, LiesIn}

-- the range is one of those that the twin stands for
pub record IsHeld (range : ℤ × ℤ) (twin : TwinPair) : Type 0 where
  pub ordered : range.0 ≤ℤ range.1
  pub low : LiesIn range.0 twin.0
  pub high : LiesIn range.1 twin.1

-- the twin of one range
abbrev pub ends_twin : ℤ × ℤ → TwinPair
ends_twin range = (twice range.0, twice range.1)

-- at most this is the least absolute value in each range that the twin stands for
abbrev pub twin_most : TwinPair → ℤ
twin_most twin = int_max (pos 0) (int_max twin.0.1 (pos 0 -ℤ twin.1.0))

-- and at least this
abbrev pub twin_fewest : TwinPair → ℤ
twin_fewest twin = int_max (pos 0) (int_max twin.0.0 (pos 0 -ℤ twin.1.1))
