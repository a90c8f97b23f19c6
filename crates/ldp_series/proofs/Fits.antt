-- A well-formed list stays so when a step is appended that fits there, and when it is cut.
use Rattle.std.proofs.Common.{◌≡◌, ℕ, zero, suc, ◌+◌, List, [], ◌∷◌, ◌++◌, length, take, subst}
use Rattle.std.proofs.Common.{arith}
use Rattle.ldp_num.specs.declared.step.Step.{Step}
use Rattle.ldp_num.specs.Steps.{StepFits, StepsFit}

fits_push_from : (inputs before at : ℕ) (steps : List Step) (s : Step) → at ≡ before + length steps
    → StepsFit inputs before steps → StepFits inputs at s → StepsFit inputs before (steps ++ s ∷ [])
fits_push_from inputs before at [] s e h k =
    let p : at ≡ before = omega arith in
    (subst (λ (n : ℕ). StepFits inputs n s) p k, tt)
fits_push_from inputs before at (t ∷ steps) s e h k =
    (h.0, fits_push_from inputs (before + 1) at steps s (omega arith) h.1 k)

pub fits_push : (inputs : ℕ) (steps : List Step) (s : Step) → StepsFit inputs 0 steps
    → StepFits inputs (length steps) s
    → StepsFit inputs 0 (steps ++ s ∷ [])
fits_push inputs steps s h k = fits_push_from inputs 0 (length steps) steps s (omega arith) h k

fits_take_from : (inputs before n : ℕ) (steps : List Step) → StepsFit inputs before steps
    → StepsFit inputs before (take n steps)
fits_take_from inputs before zero steps h = tt
fits_take_from inputs before (suc n) [] h = tt
fits_take_from inputs before (suc n) (t ∷ steps) h =
    (h.0, fits_take_from inputs (before + 1) n steps h.1)

pub fits_take : (inputs n : ℕ) (steps : List Step) → StepsFit inputs 0 steps
    → StepsFit inputs 0 (take n steps)
fits_take inputs n steps h = fits_take_from inputs 0 n steps h
