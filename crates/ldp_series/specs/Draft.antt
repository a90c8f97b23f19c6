-- A list of steps under construction, and what a call of a builder does to it.
use Rattle.std.specs.Prelude.{◌≡◌, ℕ, ◌+◌, ◌≤◌, List, ◌++◌, length}
use Rattle.ldp_num.specs.Steps.{most_steps}
use Rattle.ldp_num.specs.declared.step.Step.{Step}

-- the number of inputs, and the steps so far
pub record Draft : Type 0 where
  pub inputs : ℕ
  pub steps : List Step

-- A formula in the making: from a draft to the longer draft and an answer, mostly the place of its
-- result.
abbrev pub Formula : Type 0 → Type 0
Formula A = Draft → Draft × A

-- there is room for so many steps more
abbrev pub HasRoom : ℕ → Draft → Type 0
HasRoom count draft = length draft.steps + count ≤ most_steps

-- so many steps were added after those of the old draft, and this is the place of the last
pub record Added (count : ℕ) (old new : Draft) (place : ℕ) : Type 0 where
  pub inputs : new.inputs ≡ old.inputs
  pub added : length new.steps ≡ length old.steps + count
  pub last : place + 1 ≡ length new.steps

-- the formula makes the new draft of the old one, by so many steps, and answers the place of the
-- last
pub record Appends (formula : Formula ℕ) (count : ℕ) (old new : Draft) (place : ℕ) : Type 0 where
  pub made : ◌≡◌ (new, place) (formula old)
  pub added : Added count old new place

-- the new draft begins with the old one
pub record Extends (old new : Draft) : Type 0 where
  pub inputs : new.inputs ≡ old.inputs
  pub more : List Step
  pub steps : new.steps ≡ old.steps ++ more
