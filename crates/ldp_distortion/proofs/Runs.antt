-- Runs of lists over plain carriers, as values over numbers.
use Rattle.std.proofs.Common.{◌≡◌, ℕ, ◌+◌, ◌<◌, Bool, true, false, ℤ, List, [], ◌∷◌, ◌++◌, map}
use Rattle.std.proofs.Common.{length, take, get_or, refl, sym, ap, ◌∙◌}
use Rattle.std.proofs.lemmas.List.{map_more, append_assoc}
use Rattle.std.proofs.lemmas.List.Elements.{All-nil, All-cons}
use Rattle.std.proofs.lemmas.Option.{slice_get-map}
use Rattle.std.specs.Prelude.{All, Option, Some, None, option_map, option_and_then, if◌then◌else◌}
use Rattle.ldp_num.specs.declared.fix.Fix.{Fix}
use Rattle.ldp_num.specs.Number.{IsNumber}
use Rattle.ldp_num.specs.Written.{written, plain_in, plain_out}
use Rattle.ldp_num.specs.StepList.{StepList, value, value_in, first_result}
use Rattle.ldp_num.proofs.Listed.{plain_told}
use Rattle.ldp_distortion.specs.Inputs.{numbers}

-- what plain carriers mean
pub meant : (xs : List Fix) → map (λ one. plain_out one.n) xs ≡ map plain_out (numbers xs)
meant [] = refl
meant (x ∷ xs) = ap (λ ms. plain_out x.n ∷ ms) (meant xs)

found_by : (defined : Bool) (results : List Fix)
    → (if defined then Some (map (λ (one : Fix). plain_out one.n) results) else None)
    ≡ option_map (map plain_out) (if defined then Some (numbers results) else None)
found_by true results = ap Some (meant results)
found_by false results = refl

-- a run of plain carriers is a run over numbers
pub run_numbers : (list : StepList) (inputs : List Fix) (defined : Bool) (results : List Fix)
    → value_in (written 0) list (map (λ one. plain_out one.n) inputs)
    ≡ (if defined then Some (map (λ one. plain_out one.n) results) else None)
    → value list (numbers inputs) ≡ (if defined then Some (numbers results) else None)
run_numbers list inputs defined results h =
    plain_told list (numbers inputs) (if defined then Some (numbers results) else None)
    (ap (value_in (written 0) list) (sym (meant inputs)) ∙ h ∙ found_by defined results)

pub first_meant : (o : Option (List ℤ)) → first_result (option_map (map plain_out) o)
    ≡ option_map plain_out (first_result o)
first_meant None = refl
first_meant (Some ns) = slice_get-map plain_out ns 0

pub back_out : (o : Option ℤ) → option_and_then plain_in (option_map plain_out o) ≡ o
back_out None = refl
back_out (Some n) = refl

pub first_number : (o : Option Fix)
    → option_and_then plain_in (option_map (λ one. plain_out one.n) o) ≡ option_map (λ one. one.n) o
first_number None = refl
first_number (Some x) = refl

-- what plain carriers stand for are numbers
pub numbers_all : (xs : List Fix) → All IsNumber (numbers xs)
numbers_all [] = All-nil IsNumber
numbers_all (x ∷ xs) = All-cons IsNumber x.n (numbers xs) x.in_range (numbers_all xs)

-- the number of one more carrier is pushed
pub push_more : (items was now : List ℤ) (values : List Fix) (i : ℕ) (x : Fix) → i < length values
    → x ≡ get_or values i x
    → now ≡ was ++ x.n ∷ [] → was ≡ items ++ numbers (take i values)
    → now ≡ items ++ numbers (take (i + 1) values)
push_more items was now values i x within read pushed so_far =
    let more : numbers (take (i + 1) values) ≡ numbers (take i values) ++ (get_or values i x).n
    ∷ [] =
    map_more (λ (one : Fix). one.n) values i x within in
    pushed
    ∙ ap (λ (ns : List ℤ). ns ++ x.n ∷ []) so_far
    ∙ append_assoc items (numbers (take i values)) (x.n ∷ [])
    ∙ ap (λ (one : Fix). items ++ (numbers (take i values) ++ one.n ∷ [])) read
    ∙ ap (λ (ns : List ℤ). items ++ ns) (sym more)
