-- The joint list on the first parallel, at height 0.
use Rattle.std.proofs.Common.{◌≡◌, ℕ, ℤ, pos, List, [], ◌∷◌, ◌++◌, take, drop, refl, sym, ap, ◌∙◌}
use Rattle.std.proofs.lemmas.Option.{same_Some}
use Rattle.std.specs.Prelude.{Option, Some, None, option_and_then, unwrap_or}
use Rattle.ldp_num.specs.declared.step.Step.{Step}
use Rattle.ldp_num.specs.Number.{one}
use Rattle.ldp_num.specs.Plain.{plain_div}
use Rattle.ldp_num.specs.Written.{number_ops}
use Rattle.ldp_num.specs.Steps.{results_of, results_from}
use Rattle.ldp_series.specs.Formula.{fraction_units, ◌>>=◌}
use Rattle.ldp_series.specs.Series.{exponential, in_turn, growing_round, repeated}
use Rattle.ldp_series.specs.StepList.{value, at_places}
use Rattle.ldp_lambert.specs.Lambert.{joint_list, joint_formula, within_domain}
use Rattle.ldp_lambert2.proofs.Quotients.{minus-itself, times-zero, over-itself}

-- n, q1, m1 and k0 of a design, and m, q and the ground factor of a cell
abbrev pub inputs : ℤ → ℤ → ℤ → List ℤ
inputs n q m = n ∷ q ∷ m ∷ pos one ∷ m ∷ q ∷ pos one ∷ []

-- the steps from one on
abbrev rest : ℕ → List Step
rest k = drop k joint_list.steps

abbrev run : ℤ → ℤ → ℤ → List ℤ → List Step → Option (List ℤ)
run n q m done steps = results_from number_ops (inputs n q m) done steps

abbrev found : Option (List ℤ) → Option (List ℤ)
found results = option_and_then (λ results. at_places results joint_list.outs) results

-- the results before the exponent, and before the quotient of the radii
abbrev to_exponent : ℤ → ℤ → ℤ → List ℤ
to_exponent n q m =
    let quarter : ℤ = fraction_units (pos 1) 4 in
    inputs n q m ++ pos 0 ∷ quarter ∷ pos 0 ∷ quarter ∷ quarter ∷ []

abbrev to_ratio : ℤ → ℤ → ℤ → List ℤ
to_ratio n q m = unwrap_or (run n q m (to_exponent n q m ++ pos 0 ∷ []) (take 67 (rest 13))) []

difference : (n q m : ℤ) → results_of number_ops (inputs n q m) joint_list.steps
    ≡ run n q m (inputs n q m ++ pos 0 ∷ []) (rest 8)
unfolding joint_formula within_domain exponential in_turn growing_round repeated ◌>>=◌
difference n q m =
    ap (option_and_then (λ v. run n q m (inputs n q m ++ v ∷ []) (rest 8))) (minus-itself q)

exponent : (n q m : ℤ) → run n q m (inputs n q m ++ pos 0 ∷ []) (rest 8)
    ≡ run n q m (to_exponent n q m ++ pos 0 ∷ []) (rest 13)
unfolding joint_formula within_domain exponential in_turn growing_round repeated ◌>>=◌
exponent n q m =
    ap (option_and_then (λ v. run n q m (to_exponent n q m ++ v ∷ []) (rest 13))) (times-zero n)

power : (n q m : ℤ) → run n q m (to_exponent n q m ++ pos 0 ∷ []) (rest 13)
    ≡ option_and_then (λ v. run n q m (to_ratio n q m ++ v ∷ []) (rest 81)) (plain_div m m)
unfolding joint_formula within_domain exponential in_turn growing_round repeated ◌>>=◌
power n q m = refl

end : (n q m : ℤ) → found (run n q m (to_ratio n q m ++ pos one ∷ []) (rest 81)) ≡ Some (pos 0 ∷ [])
unfolding joint_formula within_domain exponential in_turn growing_round repeated ◌>>=◌
end n q m = refl

from_ratio : (n q m : ℤ) (ratio : Option ℤ) (distortion : List ℤ)
    → ((v : ℤ) → ratio ≡ Some v → v ≡ pos one)
    → found (option_and_then (λ v. run n q m (to_ratio n q m ++ v ∷ []) (rest 81)) ratio)
    ≡ Some distortion
    → distortion ≡ pos 0 ∷ []
from_ratio n q m None distortion is h = cc
from_ratio n q m (Some v) distortion is h =
    sym (same_Some _ _ (sym (end n q m)
    ∙ ap (λ v. found (run n q m (to_ratio n q m ++ v ∷ []) (rest 81))) (sym (is v refl)) ∙ h))

pub joint-zero : (n q m : ℤ) (distortion : List ℤ)
    → value joint_list (inputs n q m) ≡ Some distortion → distortion ≡ pos 0 ∷ []
joint-zero n q m distortion h =
    from_ratio n q m (plain_div m m) distortion (over-itself m)
    (sym (ap found (difference n q m ∙ exponent n q m ∙ power n q m)) ∙ h)
