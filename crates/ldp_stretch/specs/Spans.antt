-- What a span says of the least absolute distortion at the cells of a stretch. (Own choice of this
-- project.)
use Rattle.std.specs.Prelude.{◌≡◌, ◌≤◌, ◌<◌, ℕ, ℤ, List, slice_get, Option, Some, unsigned_abs}
use Rattle.ldp_num.specs.Steps.{most_steps, most_inputs}
use Rattle.ldp_num.specs.Twins.{TwinPair}
use Rattle.ldp_num.specs.Written.{range_ops}
use Rattle.ldp_range.specs.Range.{pair_low_abs}
use Rattle.ldp_range.specs.Related.{Pairwise}
use Rattle.ldp_range.specs.Twin.{IsHeld}
use Rattle.ldp_distortion.specs.Prepared.{PreparedCells, HasRoom, joined_at}
use Rattle.ldp_sweep.specs.declared.stretch.Stretch.{Stretch}
use Rattle.ldp_sweep.specs.declared.enclosure.Enclosure.{Enclosure}
use Rattle.ldp_stretch.specs.declared.stretches.Stretches.{Stretches}
use Rattle.ldp_stretch.specs.Hulls.{AreStretches}

-- a range is defined, and its least absolute value lies within a span
pub record IsSpanned (found : Option (ℤ × ℤ)) (span : Enclosure) : Type 0 where
  pub range : ℤ × ℤ
  pub is : found ≡ Some range
  pub low : span.low ≤ unsigned_abs (pair_low_abs range)
  pub high : unsigned_abs (pair_low_abs range) ≤ span.high

-- At each cell of a node: whatever ranges these twins stand for, with them as the results of the
-- design list the range of the distortion is defined, and its least absolute value lies within the
-- span.
abbrev pub SpansNode : PreparedCells → List TwinPair → Stretch → Enclosure → Type 0
SpansNode p twins node span =
    (design : List (ℤ × ℤ)) (cell : ℕ) → Pairwise IsHeld design twins
    → node.from ≤ cell → cell < node.to → IsSpanned (joined_at range_ops p design cell) span

-- so it is at each cell of the node at a place
abbrev pub SpansAt : PreparedCells → List TwinPair → List Stretch → ℕ → Enclosure → Type 0
SpansAt p twins nodes at span =
    (node : Stretch) → slice_get nodes at ≡ Some node → SpansNode p twins node span

-- prepared cells, the nodes into which they are cut, and twins of the results of the design list
pub record SpansView : Type 0 where
  pub cells : PreparedCells
  pub nodes : List Stretch
  pub twins : List TwinPair

-- the stretches are those of these prepared cells, and a bench of so much room and so many places
-- for inputs have room for their lists
pub record AreSpans (p : PreparedCells) (stretches : Stretches) (room places : ℕ) : Type 0 where
  pub cut : AreStretches p stretches
  pub fit : HasRoom p.lists most_steps
  pub whole_room : room ≡ most_steps
  pub few : p.lists.joint.inputs ≤ most_inputs
  pub whole_places : places ≡ most_inputs
