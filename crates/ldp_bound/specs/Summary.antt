-- What is told of the values at cells.
use Rattle.std.specs.Prelude.{ℕ, nat_lt, List, Option, None, Some, position, unwrap_or}
use Rattle.std.specs.Prelude.{if◌then◌else◌}
use Rattle.std.specs.Option.{is_none}
use Rattle.ldp_problem.specs.Costs.{at_cells, beyond, largest, first_largest, tally, cost_answer}
use Rattle.ldp_problem.specs.declared.bound.Bound.{Bound}
use Rattle.ldp_problem.specs.declared.bound.Bound.TheVariants as bounds
use Rattle.ldp_problem.specs.declared.cost.Cost.{Cost}
use Rattle.ldp_problem.specs.declared.cost.Cost.TheVariants as costs
use Rattle.ldp_bound.specs.declared.summary.Summary.{Summary}

-- how many are beyond the tolerance, the largest, and the first cell that has it
unfoldable pub tally_of : Option ℕ → List ℕ → Summary
tally_of tolerance values = record {
  over = beyond tolerance values;
  value = largest values;
  cell = first_largest values;
}

-- one where the value is beyond the tolerance
abbrev pub counted : Option ℕ → ℕ → ℕ
counted None value = 0
counted (Some tolerance) value = if nat_lt tolerance value then 1 else 0

-- the cost from the absolute distortion at each cell, where it is defined
unfoldable pub cost_over : Option ℕ → (ℕ → Option ℕ) → ℕ → Cost
cost_over tolerance sizes count =
    let values = at_cells (λ cell. unwrap_or (sizes cell) 0) count in
    cost_answer (position is_none (at_cells sizes count)) (tally tolerance values)
    (first_largest values)

-- the bound of a single, from the cost of its design
abbrev pub single_bound : Cost → Bound
single_bound (costs.Is over value cell) = bounds.Low over value cell
single_bound (costs.Unusable cell) = bounds.Unusable cell
