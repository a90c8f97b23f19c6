-- Cells in order that are cut into stretches, and these into shorter ones. (Own choice of this
-- project.)
use Rattle.std.specs.Prelude.{◌≡◌, ◌<◌, ◌≤◌, ℕ, zero, suc, List, length, slice_get}
use Rattle.std.specs.Prelude.{Option, None, Some, IsSome}
use Rattle.ldp_sweep.specs.declared.stretch.Stretch.{Stretch}
use Rattle.ldp_sweep.specs.declared.enclosure.Enclosure.{Enclosure}
use Rattle.ldp_sweep.specs.Tally.{number_at}

-- the number of cells, the value at each where it is defined, what no value exceeds, and the nodes
pub record Cut : Type 0 where
  pub cells : ℕ
  pub value : ℕ → Option ℕ
  pub limit : ℕ
  pub nodes : List Stretch

-- the cell that a stretch begins with; if there is no stretch, the number of cells
abbrev pub first_cell : ℕ → Option Stretch → ℕ
first_cell cells None = cells
first_cell cells (Some node) = node.from

-- Nodes are listed from the last cells to the first, each after its parts. This is the cell from
-- which on the first so many of them cover the cells up to the end: the first cell of the last of
-- these nodes; where there is none, the number of cells.
abbrev pub start : ℕ → List Stretch → ℕ → ℕ
start cells nodes zero = cells
start cells nodes (suc count) = first_cell cells (slice_get nodes count)

-- A node at a place of such a list. The nodes before its `skip` cover the cells behind it
-- (`behind`); the nodes from there to its own place are its parts, and where there are any, the
-- last of them begins where the node does (`parts`).
pub record IsNode (cells : ℕ) (nodes : List Stretch) (at : ℕ) (node : Stretch) : Type 0 where
  pub skips_back : node.skip ≤ at
  pub ordered : node.from ≤ node.to
  pub inside : node.to ≤ cells
  pub behind : start cells nodes node.skip ≡ node.to
  pub parts : node.skip < at → start cells nodes at ≡ node.from

-- each stretch of such a list is so at its place
abbrev pub AreNodes : ℕ → List Stretch → Type 0
AreNodes cells nodes =
    (at : ℕ) (node : Stretch) → slice_get nodes at ≡ Some node → IsNode cells nodes at node

-- there is a cell, and the nodes cover all cells
pub record IsCut (cells : ℕ) (nodes : List Stretch) : Type 0 where
  pub some : 0 < cells
  pub begins : start cells nodes (length nodes) ≡ 0
  pub each : AreNodes cells nodes

-- the values at the cells from one to another are defined and lie within a span
pub record IsWithin (value : ℕ → Option ℕ) (from to : ℕ) (span : Enclosure) : Type 0 where
  pub defined : (cell : ℕ) → from ≤ cell → cell < to → IsSome (value cell)
  pub low : (cell : ℕ) → from ≤ cell → cell < to → span.low ≤ number_at value cell
  pub high : (cell : ℕ) → from ≤ cell → cell < to → number_at value cell ≤ span.high

-- the values at the cells of the node at a place are defined and lie within a span
abbrev pub IsSpan : Cut → ℕ → Enclosure → Type 0
IsSpan cut at span =
    (node : Stretch) → slice_get cut.nodes at ≡ Some node
    → IsWithin cut.value node.from node.to span
