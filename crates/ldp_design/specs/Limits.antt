-- The limits of designs and forests (own choices of this project).
use Rattle.std.specs.Prelude.{ℕ, ℤ, pos}
use Rattle.ldp_quantity.specs.Between.{IsBetween}
use Rattle.ldp_quantity.specs.Quantity.{degrees}

-- the azimuth nearest to east; the one nearest to west is as far on the other side of north
abbrev pub most_azimuth : ℤ
most_azimuth = degrees 85

-- the greatest number of families
abbrev pub most_families : ℕ
most_families = 16

-- the greatest number of nodes of a forest
abbrev pub most_nodes : ℕ
most_nodes = 2_000_000

-- the greatest number of nodes that a search may look at
abbrev pub most_budget : ℕ
most_budget = 1_000_000

-- the greatest distortion beyond which cells are counted, in units of 10^-15: a million parts per
-- million
abbrev pub most_tolerance : ℕ
most_tolerance = 1_000_000_000_000_000

-- a distortion beyond which cells may be counted
abbrev pub IsTolerance : ℤ → Type 0
IsTolerance = IsBetween (pos 0) (pos most_tolerance)
