-- What the lists keep.
use Rattle.std.specs.Prelude.{◌≡◌, ℤ, pos, List, [], ◌∷◌, ◌++◌, Some}
use Rattle.ldp_num.specs.Number.{one}
use Rattle.ldp_series.specs.StepList.{value}
use Rattle.ldp_lambert2.specs.LambertTwo.{lambert_two}

-- On its first parallel, at height 0, a design of scale factor 1 has the distortion 0 wherever it
-- has one: exactly, in units.
abbrev pub ExactOnTheFirstParallel : Type 0
ExactOnTheFirstParallel =
    (first longitude second at : ℤ) (design cell distortion : List ℤ)
    → value lambert_two.design (first ∷ longitude ∷ second ∷ pos one ∷ []) ≡ Some design
    → value lambert_two.cell (first ∷ at ∷ pos 0 ∷ []) ≡ Some cell
    → value lambert_two.joint (design ++ cell) ≡ Some distortion → distortion ≡ pos 0 ∷ []
