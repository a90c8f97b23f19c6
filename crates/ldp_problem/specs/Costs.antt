-- The cost of a design and the bound of a box. (Own choice of this project.)
use Rattle.std.specs.Prelude.{◌<◌, ◌+◌, ◌-◌, ◌^◌, ℕ, zero, suc, min, max, nat_lt, ◌==◌, pos}
use Rattle.std.specs.Prelude.{List, [], ◌∷◌, ◌++◌, position, count_by}
use Rattle.std.specs.Prelude.{IsSome, Option, Some, None, unwrap_or, if◌then◌else◌}
use Rattle.std.specs.Option.{is_none}
use Rattle.std.specs.List.{position_or_len}
use Rattle.ldp_design.specs.declared.design.Design.{Design}
use Rattle.ldp_design.specs.declared.design_box.DesignBox.{DesignBox}
use Rattle.ldp_design.specs.Boxes.{is_single, first_of}
use Rattle.ldp_problem.specs.declared.pair.Pair.{Pair}
use Rattle.ldp_problem.specs.declared.bound.Bound.{Bound}
use Rattle.ldp_problem.specs.declared.bound.Bound.TheVariants as bounds
use Rattle.ldp_problem.specs.declared.cost.Cost.{Cost}
use Rattle.ldp_problem.specs.declared.cost.Cost.TheVariants as costs
use Rattle.ldp_problem.specs.Problem.{Problem}

-- what is so at each of so many cells, in order
abbrev pub at_cells : {A : Type 0} → (ℕ → A) → ℕ → List A
at_cells f zero = []
at_cells f (suc n) = at_cells f n ++ f n ∷ []

-- the largest of some numbers; 0 if there are none
abbrev pub largest : List ℕ → ℕ
largest [] = 0
largest (n ∷ ns) = max n (largest ns)

-- the first cell that has the largest value
abbrev pub first_largest : List ℕ → ℕ
first_largest values = position_or_len (λ value. value == largest values) values

-- how many cells are beyond the tolerance; none is without one
abbrev pub beyond : Option ℕ → List ℕ → ℕ
beyond None values = 0
beyond (Some tolerance) values = count_by (nat_lt tolerance) values

-- the pair of both numbers
abbrev pub tally : Option ℕ → List ℕ → Pair
tally tolerance values = record { over = beyond tolerance values; value = largest values }

-- a design is usable where its distortion is defined at each cell
abbrev pub IsUsable : Problem → Design → Type 0
IsUsable p d = (cell : ℕ) → cell < p.cells → IsSome (p.delta d cell)

-- the first cell where its distortion is undefined, if there is one
abbrev pub first_undefined : Problem → Design → Option ℕ
first_undefined p d = position is_none (at_cells (p.delta d) p.cells)

-- its absolute distortion at each cell; 0 where it is undefined
abbrev pub sizes : Problem → Design → List ℕ
sizes p d = at_cells (λ cell. unwrap_or (p.delta d cell) 0) p.cells

-- the cost of a usable design: how many cells are beyond the tolerance, and its largest absolute
-- distortion
abbrev pub cost : Problem → Design → Pair
cost p d = tally p.tolerance (sizes p d)

-- the first cell at which a usable design has its largest absolute distortion
abbrev pub worst_cell : Problem → Design → ℕ
worst_cell p d = first_largest (sizes p d)

-- what the absolute distortion of each design of a box is at least, at each cell
abbrev pub lows : Problem → DesignBox → List ℕ
lows p b = at_cells (p.lower b) p.cells

-- the bound of a box: how many of its lows are beyond the tolerance, and the greatest of them
abbrev pub bound : Problem → DesignBox → Pair
bound p b = tally p.tolerance (lows p b)

-- the first cell at which the lower bound of a box is greatest
abbrev pub bound_cell : Problem → DesignBox → ℕ
bound_cell p b = first_largest (lows p b)

-- the first undefined cell of a box of one design that is not usable
abbrev pub unusable_at : Problem → DesignBox → Option ℕ
unusable_at p b = if is_single b then first_undefined p (first_of b) else None

-- a cost and its cell, or the undefined cell if there is one
abbrev pub cost_answer : Option ℕ → Pair → ℕ → Cost
cost_answer (Some undefined) pair cell = costs.Unusable undefined
cost_answer None pair cell = costs.Is pair.over (pos pair.value) cell

-- the cost of a design with the cell of its worst, or the first cell at which it is undefined
unfoldable pub cost_of : Problem → Design → Cost
cost_of p d = cost_answer (first_undefined p d) (cost p d) (worst_cell p d)

-- the bound and its cell, or the undefined cell if there is one
abbrev pub bound_answer : Option ℕ → Pair → ℕ → Bound
bound_answer (Some undefined) pair cell = bounds.Unusable undefined
bound_answer None pair cell = bounds.Low pair.over (pos pair.value) cell

-- the bound of a box with its cell, or the undefined cell of a single that is not usable
unfoldable pub bound_of : Problem → DesignBox → Bound
bound_of p b = bound_answer (unusable_at p b) (bound p b) (bound_cell p b)

-- one more, up to the greatest number of 64 bits
abbrev pub count_up : ℕ → ℕ
count_up n = min (n + 1) (2 ^ 64 - 1)
