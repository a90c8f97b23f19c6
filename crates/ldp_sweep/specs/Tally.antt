-- What is told of the values at so many cells.
use Rattle.std.specs.Prelude.{ℕ, Option, position, unwrap_or}
use Rattle.std.specs.Option.{is_none}
use Rattle.ldp_problem.specs.Costs.{at_cells, beyond, largest, first_largest}
use Rattle.ldp_sweep.specs.declared.peak.Peak.{Peak}

-- the value at a cell; 0 where it is undefined
abbrev pub number_at : (ℕ → Option ℕ) → ℕ → ℕ
number_at value = λ cell. unwrap_or (value cell) 0

-- how many are above the tolerance; none is without one
abbrev pub over_of : (ℕ → Option ℕ) → Option ℕ → ℕ → ℕ
over_of value tolerance cells = beyond tolerance (at_cells (number_at value) cells)

-- the greatest, and the first cell that has it
abbrev pub peak_of : (ℕ → Option ℕ) → ℕ → Peak
peak_of value cells = record {
  value = largest (at_cells (number_at value) cells);
  cell = first_largest (at_cells (number_at value) cells);
}

-- the first cell where it is undefined, if there is one
abbrev pub undefined_of : (ℕ → Option ℕ) → ℕ → Option ℕ
undefined_of value cells = position is_none (at_cells value cells)
