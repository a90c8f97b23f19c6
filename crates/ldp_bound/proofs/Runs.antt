-- Runs of lists in a carrier, as values over what it means.
use Rattle.std.proofs.Common.{◌≡◌, Bool, true, false, ℤ, List, [], ◌∷◌, map, refl, sym, ap, ◌∙◌}
use Rattle.std.specs.Prelude.{Some, None, option_map, if◌then◌else◌}
use Rattle.ldp_num.specs.declared.fix.Fix.{Fix}
use Rattle.ldp_num.specs.Written.{written, range_ops, plain_out, pair_out}
use Rattle.ldp_num.specs.StepList.{StepList, value, value_in}
use Rattle.ldp_num.proofs.Listed.{plain_told, pair_told}
use Rattle.ldp_distortion.specs.Inputs.{numbers}

-- what plain carriers mean
pub meant : (xs : List Fix) → map (λ one. plain_out one.n) xs ≡ map plain_out (numbers xs)
meant [] = refl
meant (x ∷ xs) = ap (λ ms. plain_out x.n ∷ ms) (meant xs)

numbers_found : (defined : Bool) (results : List Fix)
    → (if defined then Some (map (λ (one : Fix). plain_out one.n) results) else None)
    ≡ option_map (map plain_out) (if defined then Some (numbers results) else None)
numbers_found true results = ap Some (meant results)
numbers_found false results = refl

pairs_found : (defined : Bool) (results : List (ℤ × ℤ))
    → (if defined then Some (map pair_out results) else None)
    ≡ option_map (map pair_out) (if defined then Some results else None)
pairs_found true results = refl
pairs_found false results = refl

-- a run of plain carriers is a run over numbers
pub run_numbers : (list : StepList) (inputs : List Fix) (defined : Bool) (results : List Fix)
    → value_in (written 0) list (map (λ (one : Fix). plain_out one.n) inputs)
    ≡ (if defined then Some (map (λ (one : Fix). plain_out one.n) results) else None)
    → value list (numbers inputs) ≡ (if defined then Some (numbers results) else None)
run_numbers list inputs defined results h =
    plain_told list (numbers inputs) (if defined then Some (numbers results) else None)
    (ap (value_in (written 0) list) (sym (meant inputs)) ∙ h ∙ numbers_found defined results)

-- a run of ranges is a run over pairs
pub run_pairs : (list : StepList) (inputs : List (ℤ × ℤ)) (defined : Bool) (results : List (ℤ × ℤ))
    → value_in (written 1) list (map pair_out inputs)
    ≡ (if defined then Some (map pair_out results) else None)
    → value_in range_ops list inputs ≡ (if defined then Some results else None)
run_pairs list inputs defined results h =
    pair_told list inputs (if defined then Some results else None) (h ∙ pairs_found defined results)
