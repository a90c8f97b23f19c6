-- What a run of the joint list in twins tells.
use Rattle.std.proofs.Common.{◌≡◌, List, map, refl, sym, ap, ◌∙◌}
use Rattle.std.proofs.lemmas.Option.{slice_get-map}
use Rattle.std.specs.Prelude.{Option, None, Some, option_map, option_and_then}
use Rattle.ldp_num.specs.Twins.{TwinPair}
use Rattle.ldp_num.specs.Written.{written, twin_ops, twin_in, twin_out}
use Rattle.ldp_num.specs.StepList.{StepList, value_in, first_result}
use Rattle.ldp_num.proofs.Listed.{twin_value}

twin_back : (found : Option TwinPair) → option_and_then twin_in (option_map twin_out found) ≡ found
twin_back None = refl
twin_back (Some t) = refl

first_mapped : (found : Option (List TwinPair))
    → first_result (option_map (map twin_out) found) ≡ option_map twin_out (first_result found)
first_mapped None = refl
first_mapped (Some results) = slice_get-map twin_out results 0

-- the first result of a run of carrier 3 is that over twins
pub first_told : (list : StepList) (inputs wanted : List TwinPair) (found : Option TwinPair)
    → option_map twin_out found ≡ first_result (value_in (written 3) list (map twin_out inputs))
    → inputs ≡ wanted → found ≡ first_result (value_in twin_ops list wanted)
first_told list inputs wanted found h same =
    sym (twin_back found)
    ∙ ap (option_and_then twin_in)
    (h ∙ ap first_result (twin_value list inputs) ∙ first_mapped (value_in twin_ops list inputs))
    ∙ twin_back (first_result (value_in twin_ops list inputs))
    ∙ ap (λ (xs : List TwinPair). first_result (value_in twin_ops list xs)) same
