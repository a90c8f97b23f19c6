-- Bounds of what the height between places is made of, of which the private functions speak.
use Rattle.std.specs.Prelude.{ℕ, ◌*◌, ◌^◌, pos, neg_ℤ, ◌*ℤ◌, ◌≤ℤ◌}
use Rattle.ldp_quantity.specs.Quantity.{IsLongitude, IsLatitude}
use Rattle.ldp_alignment.specs.declared.position.Position.{Position}
use Rattle.ldp_alignment.specs.declared.sums.Sums.{Sums}

-- the greatest weight of a place: the square of the widest spacing, 10 degrees
abbrev pub most_weight : ℕ
most_weight = 10 ^ 26

-- the sums of so many places: no weight is below 0, none is above the greatest, and a height is at
-- most 100,000 m in absolute value
pub record AreBounded (count : ℕ) (sums : Sums) : Type 0 where
  pub some : pos 0 ≤ℤ sums.weights
  pub few : sums.weights ≤ℤ pos (count * 10 ^ 26)
  pub low : neg_ℤ (pos 100_000_000 *ℤ sums.weights) ≤ℤ sums.heights
  pub high : sums.heights ≤ℤ (pos 100_000_000 *ℤ sums.weights)

-- a point whose longitude and latitude are in their ranges
pub record IsPosition (at : Position) : Type 0 where
  pub x : IsLongitude at.x
  pub y : IsLatitude at.y
