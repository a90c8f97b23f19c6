-- A list of steps with the places of its results, and its value.
use Rattle.std.specs.Prelude.{ℕ, ℤ, List, [], ◌∷◌, slice_get, Option, Some, option_map}
use Rattle.std.specs.Prelude.{option_and_then}
use Rattle.ldp_num.specs.declared.step.Step.{Step}
use Rattle.ldp_num.specs.Written.{Ops, number_ops}
use Rattle.ldp_num.specs.Steps.{results_of}

-- the steps, the places of the results, and the number of inputs
pub record StepList : Type 0 where
  pub steps : List Step
  pub outs : List ℕ
  pub inputs : ℕ

-- the results at some places
abbrev pub at_places : {A : Type 0} → List A → List ℕ → Option (List A)
at_places results [] = Some []
at_places results (place ∷ places) =
    option_and_then (λ x. option_map (λ xs. x ∷ xs) (at_places results places))
    (slice_get results place)

-- the value of a list over inputs, in any carrier's operations; undefined where any step is
abbrev pub value_in : {A : Type 0} → Ops A → StepList → List A → Option (List A)
value_in ops list inputs =
    option_and_then (λ results. at_places results list.outs) (results_of ops inputs list.steps)

-- the value of a list: the numbers at its result places
abbrev pub value : StepList → List ℤ → Option (List ℤ)
value list inputs = value_in number_ops list inputs

-- the first of the results, where there are any
abbrev pub first_result : {A : Type 0} → Option (List A) → Option A
first_result results = option_and_then (λ values. slice_get values 0) results
