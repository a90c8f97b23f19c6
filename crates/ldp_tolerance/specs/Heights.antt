-- Lists of a projection along which the height of a cell moves, and cells whose heights differ.
use Rattle.std.specs.Prelude.{◌≡◌, ◌≤ℤ◌, ◌+ℤ◌, ◌-ℤ◌, ℕ, pos, neg_ℤ, Bool, true, false}
use Rattle.std.specs.Prelude.{List, [], ◌∷◌, ◌++◌, map, Option, IsSome, option_and_then}
use Rattle.ldp_series.specs.declared.list.Lists.{Lists}
use Rattle.ldp_range.specs.Related.{Pairwise}
use Rattle.ldp_cells.specs.Range.{raised}
use Rattle.ldp_cells.specs.declared.cell.Cell.{Cell}
use Rattle.ldp_tolerance.specs.Moves.{moves_in}

-- which results of the cell list move with the height, its third input
abbrev pub cell_moves : Lists → Option (List Bool)
cell_moves lists = moves_in lists.cell (false ∷ false ∷ true ∷ [])

-- which results of the joint list do; those of the design list stay
abbrev pub joint_moves : Lists → List Bool → Option (List Bool)
joint_moves lists cell = moves_in lists.joint (map (λ place. false) lists.design.outs ++ cell)

-- no step, up to the distortion, has two operands that move with the height
unfoldable pub MoveOnce : Lists → Type 0
MoveOnce lists = IsSome (option_and_then (joint_moves lists) (cell_moves lists))

-- the same cells, each lowered by so many millimetres
abbrev pub lowered : ℕ → List Cell → List Cell
lowered t cells = raised (neg_ℤ (pos t)) cells

-- the same place and centre, at a height that differs by at most t millimetres
pub record IsNearby (t : ℕ) (cell other : Cell) : Type 0 where
  pub row : other.row ≡ cell.row
  pub col : other.col ≡ cell.col
  pub x : other.x ≡ cell.x
  pub y : other.y ≡ cell.y
  pub low : (cell.mm -ℤ pos t) ≤ℤ other.mm
  pub high : other.mm ≤ℤ (cell.mm +ℤ pos t)

-- a list of cells is within t millimetres of another: cell by cell, in the same order
abbrev pub AreWithin : ℕ → List Cell → List Cell → Type 0
AreWithin t cells others = Pairwise (IsNearby t) cells others
