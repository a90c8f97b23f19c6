-- A run of a list that was cut in two, where the head's results are kept.
use Rattle.std.proofs.Common.{◌≡◌, ◌≤◌, ℕ, Bool, true, false, ℤ, List, [], ◌∷◌, ◌++◌, map}
use Rattle.std.proofs.Common.{length, take, drop, arith, refl, sym, ap, subst, ◌∙◌}
use Rattle.std.proofs.lemmas.List.{take-map, take-take, take-append-le, take-append-drop, take_all}
use Rattle.std.proofs.lemmas.List.{length-map}
use Rattle.std.specs.Prelude.{Some, None, option_and_then, if◌then◌else◌}
use Rattle.std.specs.Bool.{OnTrue, OnFalse}
use Rattle.ldp_num.specs.Written.{Ops}
use Rattle.ldp_num.specs.StepList.{StepList, value_in}
use Rattle.ldp_series.specs.Cut.{IsCut}
use Rattle.ldp_series.specs.CutRuns.{HasHead}

front_of : {A V : Type 0} (m : V → A) (first kept : List V) (k : ℕ) → k ≤ length first
    → take k (map m (first ++ kept)) ≡ map m (take k first)
front_of m first kept k le =
    take-map m k (first ++ kept) ∙ ap (map m) (take-append-le k first kept le)

back_of : {A V : Type 0} (m : V → A) (first kept : List V)
    → drop (length first) (map m (first ++ kept)) ≡ map m kept
back_of m [] kept = refl
back_of m (x ∷ first) kept = back_of m first kept

-- the inputs that the head takes are the same
pub still_head : {A V : Type 0} (ops : Ops A) (m : V → A) (head : StepList)
    (first kept inputs : List V)
    → head.inputs ≤ length inputs → length first ≡ length inputs
    → HasHead ops head (length inputs) (map m (first ++ kept))
    → map m (take head.inputs first) ≡ map m (take head.inputs inputs)
    → HasHead ops head (length inputs) (map m (inputs ++ kept))
still_head ops m head first kept inputs few count ran same =
    let back : drop (length inputs) (map m (first ++ kept)) ≡ map m kept =
    subst (λ (n : ℕ). drop n (map m (first ++ kept)) ≡ map m kept) count
    (back_of m first kept) in
    ap (value_in ops head) (front_of m inputs kept head.inputs few ∙ sym same
    ∙ sym (front_of m first kept head.inputs (omega arith)))
    ∙ ran ∙ ap Some (back ∙ sym (back_of m inputs kept))

-- the head was run
pub new_head : {A V : Type 0} (ops : Ops A) (m : V → A) (head : StepList) (inputs kept : List V)
    (defined : Bool)
    → head.inputs ≤ length inputs
    → value_in ops head (map m (take head.inputs inputs))
    ≡ (if defined then Some (map m kept) else None)
    → OnTrue defined (HasHead ops head (length inputs) (map m (inputs ++ kept)))
new_head ops m head inputs kept true few h =
    ap (value_in ops head) (front_of m inputs kept head.inputs few) ∙ h
    ∙ ap Some (sym (back_of m inputs kept))
new_head ops m head inputs kept false few h = tt

pub no_value : {A V : Type 0} (ops : Ops A) (m : V → A) (head : StepList) (inputs kept : List V)
    (defined : Bool)
    → value_in ops head (map m (take head.inputs inputs))
    ≡ (if defined then Some (map m kept) else None)
    → OnFalse defined (value_in ops head (take head.inputs (map m inputs)) ≡ None)
no_value ops m head inputs kept true h = tt
no_value ops m head inputs kept false h =
    ap (value_in ops head) (take-map m head.inputs inputs) ∙ h

-- the value of the list is that of the tail, and undefined where the head is
pub by_tail : {V : Type 0} (ops : Ops (List ℤ)) (m : V → List ℤ) (list head tail : StepList)
    (inputs places : List V)
    → IsCut head.inputs list head tail → head.inputs ≤ list.inputs → length inputs ≡ list.inputs
    → HasHead ops head (length inputs) (map m places) → take (length inputs) places ≡ inputs
    → value_in ops list (map m inputs) ≡ value_in ops tail (map m places)
by_tail ops m list head tail inputs places cut few count ran front =
    let n : ℕ = length inputs in
    let means : take n (map m places) ≡ map m inputs = take-map m n places ∙ ap (map m) front in
    let taken : take head.inputs (map m inputs) ≡ take head.inputs (map m places) =
    ap (take head.inputs) (sym means) ∙ take-take head.inputs n (map m places) (omega arith) in
    let whole : map m inputs ++ drop n (map m places) ≡ map m places =
    ap (λ xs. xs ++ drop n (map m places)) (sym means) ∙ take-append-drop n (map m places) in
    cut.value ops (map m inputs) (length-map inputs m ∙ count)
    ∙ ap (option_and_then (λ kept. value_in ops tail (map m inputs ++ kept)))
    (ap (value_in ops head) taken ∙ ran)
    ∙ ap (value_in ops tail) whole

pub by_head : {V : Type 0} (ops : Ops (List ℤ)) (m : V → List ℤ) (list head tail : StepList)
    (inputs : List V)
    → IsCut head.inputs list head tail → length inputs ≡ list.inputs
    → value_in ops head (take head.inputs (map m inputs)) ≡ None
    → value_in ops list (map m inputs) ≡ None
by_head ops m list head tail inputs cut count none =
    cut.value ops (map m inputs) (length-map inputs m ∙ count)
    ∙ ap (option_and_then (λ kept. value_in ops tail (map m inputs ++ kept))) none

-- what was written over a whole list is read back
pub written_back : {V : Type 0} (n : ℕ) (xs ys : List V) → n ≡ length xs → take n (xs ++ ys) ≡ xs
written_back n xs ys h = take-append-le n xs ys (omega arith) ∙ take_all n xs (omega arith)
