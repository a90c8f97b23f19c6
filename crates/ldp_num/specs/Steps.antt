-- A formula is a list of steps: a constant, an input, or one operation on the results of earlier
-- steps.
use Rattle.std.specs.Prelude.{◌<◌, ℕ, ◌+◌, List, [], ◌∷◌, ◌++◌, slice_get, Option, Some}
use Rattle.std.specs.Prelude.{option_and_then}
use Rattle.ldp_num.specs.declared.step.Step.{Step}
use Rattle.ldp_num.specs.declared.step.Step.TheVariants.{Const, Input, Add, Sub, Mul, Div, Sq, Sqrt}
use Rattle.ldp_num.specs.declared.step.Step.TheVariants.{Need}
use Rattle.ldp_num.specs.Number.{IsNumber}
use Rattle.ldp_num.specs.Written.{Ops}

-- an operation on the result at a place; undefined if none is there
abbrev pub at_one : {A : Type 0} → (A → Option A) → List A → ℕ → Option A
at_one f done a = option_and_then f (slice_get done a)

-- an operation on the results at two places; undefined if one is not there
abbrev pub at_two : {A : Type 0} → (A → A → Option A) → List A → ℕ → ℕ → Option A
at_two f done a b =
    option_and_then (λ x. option_and_then (f x) (slice_get done b)) (slice_get done a)

-- the result of a step over the inputs and the results so far
abbrev pub step_value : {A : Type 0} → Ops A → List A → List A → Step → Option A
step_value ops inputs done (Const v) = Some (ops.constant v)
step_value ops inputs done (Input i) = slice_get inputs i
step_value ops inputs done (Add a b) = at_two ops.add done a b
step_value ops inputs done (Sub a b) = at_two ops.sub done a b
step_value ops inputs done (Mul a b) = at_two ops.mul done a b
step_value ops inputs done (Div a b) = at_two ops.div done a b
step_value ops inputs done (Sq a) = at_one ops.sq done a
step_value ops inputs done (Sqrt a) = at_one ops.sqrt done a
step_value ops inputs done (Need a) = at_one ops.need done a

-- the results of all steps in order, after those done; undefined where one is, also one that no
-- result uses
abbrev pub results_from : {A : Type 0} → Ops A → List A → List A → List Step → Option (List A)
results_from ops inputs done [] = Some done
results_from ops inputs done (step ∷ steps) =
    option_and_then (λ v. results_from ops inputs (done ++ v ∷ []) steps)
    (step_value ops inputs done step)

-- the results of all steps, from none done
abbrev pub results_of : {A : Type 0} → Ops A → List A → List Step → Option (List A)
results_of ops inputs steps = results_from ops inputs [] steps

-- a step is well formed after this many steps: its operands are earlier places, its input is there,
-- its constant is a number
abbrev pub StepFits : ℕ → ℕ → Step → Type 0
StepFits inputs before (Const v) = IsNumber v
StepFits inputs before (Input i) = i < inputs
StepFits inputs before (Add a b) = (a < before) × (b < before)
StepFits inputs before (Sub a b) = (a < before) × (b < before)
StepFits inputs before (Mul a b) = (a < before) × (b < before)
StepFits inputs before (Div a b) = (a < before) × (b < before)
StepFits inputs before (Sq a) = a < before
StepFits inputs before (Sqrt a) = a < before
StepFits inputs before (Need a) = a < before

-- the steps are well formed, the first of them after this many
abbrev pub StepsFit : ℕ → ℕ → List Step → Type 0
StepsFit inputs before [] = Unit {0}
StepsFit inputs before (step ∷ steps) =
    StepFits inputs before step × StepsFit inputs (before + 1) steps

-- the most steps that a list has
abbrev pub most_steps : ℕ
most_steps = 4096

-- the most inputs of a list
abbrev pub most_inputs : ℕ
most_inputs = 16

-- the most results of a list
abbrev pub most_results : ℕ
most_results = 8
