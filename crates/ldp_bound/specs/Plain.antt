-- The problem of families of designs over cells, where the distortion of a box is bounded by its
-- range alone.
use Rattle.std.specs.Prelude.{ℕ, ℤ, pos, ◌≤ℤ◌, List, [], ◌∷◌, length, slice_get, Option, None, Some}
use Rattle.std.specs.Prelude.{option_map, option_and_then, unsigned_abs}
use Rattle.ldp_num.specs.Number.{limit}
use Rattle.ldp_num.specs.Written.{Ops, number_ops, range_ops}
use Rattle.ldp_range.specs.Range.{pair_low_abs}
use Rattle.ldp_cells.specs.declared.cell.Cell.{Cell}
use Rattle.ldp_distortion.specs.Distortion.{distortion_in, cell_results}
use Rattle.ldp_design.specs.declared.family.Family.{Family}
use Rattle.ldp_design.specs.declared.design.Design.{Design}
use Rattle.ldp_design.specs.declared.design_box.DesignBox.{DesignBox}
use Rattle.ldp_design.specs.declared.inputs.Inputs4.{Inputs4}
use Rattle.ldp_design.specs.Families.{family_of}
use Rattle.ldp_design.specs.Boxes.{first_of, last_of}
use Rattle.ldp_design.specs.Inputs.{inputs_at}
use Rattle.ldp_problem.specs.declared.cost.Cost.{Cost}
use Rattle.ldp_problem.specs.declared.cost.Cost.TheVariants as costs
use Rattle.ldp_problem.specs.Problem.{Problem}
use Rattle.ldp_bound.specs.Kinds.{family_lists}

-- the inputs of the design list for a design, in the list's order
abbrev pub number_inputs : Inputs4 → List ℤ
number_inputs at = at.lat ∷ at.lon ∷ at.azimuth ∷ at.scale ∷ []

-- the inputs of the design list for a box, from those at its low and at its high indices
abbrev pub pair_inputs : Inputs4 → Inputs4 → List (ℤ × ℤ)
pair_inputs low high =
    (low.lat, high.lat) ∷ (low.lon, high.lon) ∷ (low.azimuth, high.azimuth)
    ∷ (low.scale, high.scale) ∷ []

-- the inputs of the design list for a design of a family: radians in 10^-15, and the scale factor
abbrev pub design_numbers : Design → Family → List ℤ
design_numbers d f = number_inputs (inputs_at f d)

-- the inputs of the design list for a box of a family, each as its least and its greatest value
abbrev pub box_pairs : DesignBox → Family → List (ℤ × ℤ)
box_pairs b f = pair_inputs (inputs_at f (first_of b)) (inputs_at f (last_of b))

-- in any carrier: the distortion at a cell, by the lists of the family with this number, from the
-- inputs that the family gives; undefined where there is no such family or cell
unfoldable pub distortion_at : {A : Type 0} → Ops A → List Family → List Cell → ℕ
    → (Family → List A) → ℕ → Option A
distortion_at ops families cells number inputs i =
    option_and_then
    (λ f. option_and_then
    (λ cell. distortion_in ops (family_lists f) (inputs f)
    (cell_results (family_lists f).cell cell))
    (slice_get cells i))
    (family_of families number)

-- the absolute value of the distortion of a design at a cell
abbrev pub delta_at : List Family → List Cell → Design → ℕ → Option ℕ
delta_at families cells d i =
    option_map unsigned_abs
    (distortion_at number_ops families cells d.family (design_numbers d) i)

-- the range of the distortion of a box at a cell; None if it is undefined
abbrev pub range_at : List Family → List Cell → DesignBox → ℕ → Option (ℤ × ℤ)
range_at families cells b i = distortion_at range_ops families cells b.family (box_pairs b) i

-- the least absolute value of the numbers of a range; 0 if the range is undefined
abbrev pub least_size : Option (ℤ × ℤ) → ℕ
least_size None = 0
least_size (Some range) = unsigned_abs (pair_low_abs range)

-- the least absolute value in the range of the distortion of a box at a cell
abbrev pub lower_at : List Family → List Cell → DesignBox → ℕ → ℕ
lower_at families cells b i = least_size (range_at families cells b i)

-- the problem over these families and cells; the tolerance is in units of 10^-15
abbrev pub plain_problem : List Family → List Cell → Option ℕ → Problem
plain_problem families cells tolerance = record {
  families = families;
  cells = length cells;
  tolerance = tolerance;
  lower = lower_at families cells;
  delta = delta_at families cells;
}

-- the value of a cost is a number
abbrev pub HasNumber : Cost → Type 0
HasNumber (costs.Is over value cell) = (pos 0 ≤ℤ value) × (value ≤ℤ pos limit)
HasNumber (costs.Unusable cell) = Unit {0}
