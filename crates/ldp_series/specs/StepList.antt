-- A finished list of steps: that it is well formed, and the list that a formula makes.
use Rattle.std.specs.Prelude.{◌≡◌, ◌≤◌, ◌<◌, ℕ, zero, suc, List, [], ◌∷◌, ◌++◌, length, All}
use Rattle.std.proofs.Common.{ap, ◌∙◌}
use Rattle.ldp_num.specs.declared.step.Step.{Step}
use Rattle.ldp_num.specs.declared.step.Step.TheVariants.{Input}
use Rattle.ldp_num.specs.Steps.{StepsFit, most_steps, most_inputs, most_results}
pub use Rattle.ldp_num.specs.StepList.{StepList, at_places, value_in, value, first_result}
use Rattle.ldp_series.specs.Draft.{Draft, Formula}

-- each step takes inputs or earlier results alone, each result is that of a step, and none are too
-- many
pub record IsWellFormed (list : StepList) : Type 0 where
  pub fit : StepsFit list.inputs 0 list.steps
  pub small : length list.steps ≤ most_steps
  pub few_inputs : list.inputs ≤ most_inputs
  pub few_outs : length list.outs ≤ most_results
  pub placed : All (λ place. place < length list.steps) list.outs

-- the steps that take the inputs, in order
abbrev pub input_steps : ℕ → List Step
input_steps zero = []
input_steps (suc k) = input_steps k ++ Input k ∷ []

-- a draft that has its inputs and nothing else
abbrev pub started : ℕ → Draft
started inputs = record { inputs = inputs; steps = input_steps inputs }

-- the list of a draft with these results
abbrev pub finished : Draft × List ℕ → StepList
finished made = record { steps = made.0.steps; outs = made.1; inputs = made.0.inputs }

-- the list that a formula with so many inputs makes, its answer the places of the results
abbrev pub list_of : ℕ → Formula (List ℕ) → StepList
list_of inputs formula = finished (formula (started inputs))

-- A list that was begun with the inputs, continued as the formula says, and finished, is the list
-- of the formula.
pub list_of-is : (inputs : ℕ) (formula : Formula (List ℕ)) (list : StepList) (start made : Draft)
    (outs : List ℕ)
    → start ≡ started inputs → (made, outs) ≡ formula start → list ≡ finished (made, outs)
    → list ≡ list_of inputs formula
list_of-is inputs formula list start made outs h k l =
    l ∙ ap finished k ∙ ap (λ draft. finished (formula draft)) h
