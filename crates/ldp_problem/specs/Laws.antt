-- What follows of any problem whose lower is sound, of the order of pairs, and of lists over cells.
use Rattle.std.specs.Prelude.{◌≡◌, ◌≤◌, ◌<◌, ◌+◌, ℕ, max, nat_lt, List, [], ◌∷◌, ◌++◌, length}
use Rattle.std.specs.Prelude.{get_or, Option, None, Some, if◌then◌else◌}
use Rattle.std.specs.Cmp.{IsTotalOrder}
use Rattle.ldp_design.specs.declared.design.Design.{Design}
use Rattle.ldp_design.specs.declared.design_box.DesignBox.{DesignBox}
use Rattle.ldp_design.specs.Boxes.{LiesIn, IsIn, IsSingle, first_of}
use Rattle.ldp_problem.specs.Problem.{Problem, IsSound}
use Rattle.ldp_problem.specs.declared.pair.Pair.{Pair}
use Rattle.ldp_problem.specs.Pairs.{AtMost, pair_cmp}
use Rattle.ldp_problem.specs.Costs.{IsUsable, first_undefined, cost, worst_cell}
use Rattle.ldp_problem.specs.Costs.{bound, bound_cell, beyond, lows, at_cells, largest}

-- a design that has no first undefined cell is usable
abbrev pub NoneUndefined : Type 0
NoneUndefined = (p : Problem) (d : Design) → first_undefined p d ≡ None → IsUsable p d

-- a usable design has no first undefined cell
abbrev pub UsableHasNone : Type 0
UsableHasNone = (p : Problem) (d : Design) → IsUsable p d → first_undefined p d ≡ None

-- the first undefined cell is a cell where the distortion is undefined
abbrev pub FirstUndefined : Type 0
FirstUndefined = (p : Problem) (d : Design) (cell : ℕ) → first_undefined p d ≡ Some cell
    → (cell < p.cells) × (p.delta d cell ≡ None)

-- no usable design of a box has a smaller cost than the bound
abbrev pub BoundBelow : Type 0
BoundBelow = (p : Problem) (b : DesignBox) (d : Design)
    → IsSound p → LiesIn p.families b → IsIn d b → IsUsable p d
    → AtMost (bound p b) (cost p d)

-- nor than the pair of the number of the box's lows beyond the tolerance and its low at any one
-- cell
abbrev pub LeafBelow : Type 0
LeafBelow = (p : Problem) (b : DesignBox) (d : Design) (cell : ℕ)
    → IsSound p → LiesIn p.families b → IsIn d b → IsUsable p d → cell < p.cells
    → AtMost (record { over = beyond p.tolerance (lows p b); value = p.lower b cell }) (cost p d)

-- the bound of a box of one design is its cost, at the same cell
abbrev pub SingleExact : Type 0
SingleExact = (p : Problem) (b : DesignBox) → IsSound p → LiesIn p.families b → IsSingle b
    → (bound p b ≡ cost p (first_of b)) × (bound_cell p b ≡ worst_cell p (first_of b))

-- the cell of the bound is a cell, and the box has its greatest low there
abbrev pub BoundAtCell : Type 0
BoundAtCell = (p : Problem) (b : DesignBox) → 0 < p.cells
    → (bound_cell p b < p.cells) × (p.lower b (bound_cell p b) ≡ (bound p b).value)

-- the cell of the worst is a cell
abbrev pub WorstAtCell : Type 0
WorstAtCell = (p : Problem) (d : Design) → 0 < p.cells → worst_cell p d < p.cells

-- the low at a cell is at most the greatest
abbrev pub LowBelow : Type 0
LowBelow = (p : Problem) (b : DesignBox) (cell : ℕ)
    → cell < p.cells → p.lower b cell ≤ (bound p b).value

-- pairs are in a total order
abbrev pub PairsAreOrdered : Type 0
PairsAreOrdered = IsTotalOrder pair_cmp

-- at most one that is at most a third, a pair is at most the third
abbrev pub AtMostFollows : Type 0
AtMostFollows = (a b c : Pair) → AtMost a b → AtMost b c → AtMost a c

-- so many cells have so many values
abbrev pub CellsAreCounted : Type 0 → Type 0
CellsAreCounted A = (f : ℕ → A) (n : ℕ) → length (at_cells f n) ≡ n

-- the value at a cell stands at its place
abbrev pub CellsStand : Type 0 → Type 0
CellsStand A = (f : ℕ → A) (n cell : ℕ) (other : A) → cell < n
    → get_or (at_cells f n) cell other ≡ f cell

-- the largest of one value more is the greater of both
abbrev pub LargestGrows : Type 0
LargestGrows = (values : List ℕ) (value : ℕ)
    → largest (values ++ value ∷ []) ≡ max (largest values) value

-- the value at a cell is at most the largest
abbrev pub LargestIsAbove : Type 0
LargestIsAbove = (f : ℕ → ℕ) (n cell : ℕ) → cell < n → f cell ≤ largest (at_cells f n)

-- one value more is counted where it is beyond the tolerance
abbrev pub BeyondGrows : Type 0
BeyondGrows = (tolerance : Option ℕ) (values : List ℕ) (value : ℕ)
    → beyond tolerance (values ++ value ∷ [])
    ≡ beyond tolerance values + beyond tolerance (value ∷ [])

-- one value alone is counted if it is greater than the tolerance
abbrev pub BeyondOfOne : Type 0
BeyondOfOne = (tolerance value : ℕ)
    → beyond (Some tolerance) (value ∷ []) ≡ (if nat_lt tolerance value then 1 else 0)
