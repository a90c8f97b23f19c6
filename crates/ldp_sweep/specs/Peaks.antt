-- What is known of the values at cells while they are looked at. Only private functions speak of
-- it.
use Rattle.std.specs.Prelude.{◌≡◌, ◌<◌, ◌≤◌, ◌+◌, ℕ, Option, None, Some, IsSome}
use Rattle.ldp_sweep.specs.declared.peak.Peak.{Peak}
use Rattle.ldp_sweep.specs.declared.tally.Tally.{Tally}
use Rattle.ldp_sweep.specs.declared.stretch.Stretch.{Stretch}
use Rattle.ldp_sweep.specs.Cut.{Cut}
use Rattle.ldp_sweep.specs.Tally.{number_at, over_of}

-- a peak that is not higher than another
pub record IsAtMost (left right : Peak) : Type 0 where
  pub value : left.value ≤ right.value
  pub cell : left.value ≡ right.value → right.cell ≤ left.cell

-- no cell from one to another has a higher peak than this
abbrev pub AreNoHigher : (ℕ → Option ℕ) → ℕ → ℕ → Peak → Type 0
AreNoHigher value from to peak =
    (cell : ℕ) → from ≤ cell → cell < to
    → IsAtMost (record { value = number_at value cell; cell = cell }) peak

-- a peak of these cells: its value is the value at its cell
pub record IsAtCell (cut : Cut) (peak : Peak) : Type 0 where
  pub cell : peak.cell < cut.cells
  pub value : cut.value peak.cell ≡ Some peak.value
  pub small : peak.value ≤ cut.limit

-- the values at the first cells are defined: how many of them are above the tolerance, and a peak
-- than which none of them is higher
pub record IsTally (cut : Cut) (tolerance : Option ℕ) (cells : ℕ) (tally : Tally) : Type 0 where
  pub defined : (cell : ℕ) → cell < cells → IsSome (cut.value cell)
  pub over : tally.over ≡ over_of cut.value tolerance cells
  pub at_cell : IsAtCell cut tally.peak
  pub most : AreNoHigher cut.value 0 cells tally.peak

-- the values at a node's cells are defined and no higher than the peak, and so many more are above
-- the tolerance
pub record IsPassed (value : ℕ → Option ℕ) (tolerance : Option ℕ) (node : Stretch) (peak : Peak)
    (more : ℕ) : Type 0 where
  pub defined : (cell : ℕ) → node.from ≤ cell → cell < node.to → IsSome (value cell)
  pub most : AreNoHigher value node.from node.to peak
  pub over : over_of value tolerance node.to ≡ over_of value tolerance node.from + more

-- the value is undefined at this cell, and at none before it
pub record IsFirstUndefined (cut : Cut) (cell : ℕ) : Type 0 where
  pub within : cell < cut.cells
  pub here : cut.value cell ≡ None
  pub before : (k : ℕ) → k < cell → IsSome (cut.value k)
