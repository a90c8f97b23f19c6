-- The group of steps of a parallel, which the design list and the cell list have in common.
use Rattle.std.proofs.Common.{◌≡◌, ℕ, zero, suc, ◌+◌, true, List, [], ◌∷◌, ◌++◌, map, length, drop}
use Rattle.std.proofs.Common.{refl}
use Rattle.ldp_num.specs.declared.step.Step.{Step}
use Rattle.ldp_ellipsoid.specs.Ellipsoid.{geo, meridian, hyperbolic_arctangent, isometric}
use Rattle.ldp_ellipsoid.specs.Ellipsoid.{axis_ratio, ground_factor}
use Rattle.ldp_series.specs.Draft.{Formula}
use Rattle.ldp_series.specs.Formula.{answer, ◌>>=◌}
use Rattle.ldp_series.specs.Series.{horner, polynomial, in_turn, round, sine, cosine, repeated}
use Rattle.ldp_series.specs.Series.{odd_polynomial, logarithm, difference_over_sum}
use Rattle.ldp_series.specs.StepList.{list_of, input_steps}
use Rattle.ldp_lambert.specs.Lambert.{cell_list, cell_formula}
use Rattle.ldp_lambert2.specs.LambertTwo.{design_list, design_formula, cone_constant, within_domain}
use Rattle.ldp_lambert2.proofs.Groups.{moved, are_operations}

abbrev parallel : Formula (List ℕ)
parallel = do
  g ← geo 0
  m ← meridian g
  q ← isometric g.s
  answer (m ∷ q ∷ [])

abbrev ground : Formula (List ℕ)
ground = do
  factor ← ground_factor 0 1
  answer (factor ∷ [])

-- the steps after the latitude, and after 1 - e² sin²φ and the height number
pub parallel_steps : List Step
parallel_steps = drop 1 (list_of 1 parallel).steps

unfoldable pub ground_steps : List Step
ground_steps = drop 2 (list_of 2 ground).steps

-- the steps of the design list after those of its first parallel
pub design_rest : List Step
design_rest = drop 249 design_list.steps

-- the places of a parallel in the design list, behind four inputs, and in the cell list
abbrev pub in_design : ℕ → ℕ
in_design zero = zero
in_design (suc k) = suc (suc (suc (suc k)))

abbrev pub in_cell : ℕ → ℕ
in_cell zero = zero
in_cell (suc k) = suc (suc (suc k))

-- the places of the ground factor in the cell list
abbrev pub ground_place : ℕ → ℕ
ground_place zero = 142
ground_place (suc zero) = 2
ground_place (suc (suc k)) = suc (suc (suc (245 + k)))

-- what of them the proofs use
pub parallel-is : (length parallel_steps ≡ 245) × (are_operations parallel_steps ≡ true)
unfolding parallel_steps geo meridian hyperbolic_arctangent isometric horner polynomial in_turn
    round sine cosine repeated odd_polynomial logarithm difference_over_sum ◌>>=◌
parallel-is = (refl, refl)

pub ground-operations : are_operations ground_steps ≡ true
unfolding ground_steps axis_ratio ground_factor ◌>>=◌
ground-operations = refl

pub design-is : (design_list.steps
    ≡ input_steps 4 ++ (map (moved in_design) parallel_steps ++ design_rest))
    × (design_list.outs ≡ 541 ∷ 248 ∷ 145 ∷ 3 ∷ [])
unfolding parallel_steps design_rest geo meridian hyperbolic_arctangent isometric horner
    polynomial in_turn round sine cosine repeated odd_polynomial logarithm
    difference_over_sum design_formula cone_constant within_domain ◌>>=◌
design-is = (refl, refl)

pub cell-is : (cell_list.steps
    ≡ input_steps 3 ++ (map (moved in_cell) parallel_steps
    ++ (map (moved ground_place) ground_steps ++ [])))
    × (cell_list.outs ≡ 144 ∷ 247 ∷ 254 ∷ [])
unfolding parallel_steps ground_steps geo meridian hyperbolic_arctangent isometric axis_ratio
    ground_factor horner polynomial in_turn round sine cosine repeated odd_polynomial
    logarithm difference_over_sum cell_formula ◌>>=◌
cell-is = (refl, refl)
