-- Runs of lists over what values mean.
use Rattle.std.proofs.Common.{◌≡◌, ℕ, ◌+◌, ◌<◌, ◌≤◌, Bool, true, false, List, [], ◌∷◌, ◌++◌, map}
use Rattle.std.proofs.Common.{length, take, get_or, set, arith, refl, sym, ap, ◌∙◌}
use Rattle.std.proofs.lemmas.List.{take_all, take_more, take_more_set, map-append, length-map}
use Rattle.std.proofs.lemmas.List.Elements.{All-head, All-tail}
use Rattle.std.proofs.lemmas.Option.{slice_get-map, slice_get-get_or, same_Some}
use Rattle.std.specs.Prelude.{All, Option, Some, None, option_map, option_and_then, slice_get}
use Rattle.std.specs.Prelude.{if◌then◌else◌}
use Rattle.ldp_num.specs.declared.step.Step.{Step}
use Rattle.ldp_num.specs.Written.{Ops}
use Rattle.ldp_num.specs.Steps.{results_of}
use Rattle.ldp_num.specs.StepList.{StepList, at_places, value_in, first_result}

-- the value of a list by a run of its steps
pub run_value : {A V : Type 0} (ops : Ops A) (m : V → A) (list : StepList) (inputs : List V)
    (steps : List Step) (defined : Bool) (run : List V)
    → steps ≡ list.steps
    → results_of ops (map m inputs) steps ≡ (if defined then Some (map m run) else None)
    → value_in ops list (map m inputs) ≡ (if defined then at_places (map m run) list.outs else None)
run_value ops m list inputs steps true run e h =
    ap (λ (ss : List Step). option_and_then (λ found. at_places found list.outs)
    (results_of ops (map m inputs) ss)) (sym e)
    ∙ ap (option_and_then (λ found. at_places found list.outs)) h
run_value ops m list inputs steps false run e h =
    ap (λ (ss : List Step). option_and_then (λ found. at_places found list.outs)
    (results_of ops (map m inputs) ss)) (sym e)
    ∙ ap (option_and_then (λ found. at_places found list.outs)) h

-- one more result
pub at_places-more : {A : Type 0} (run : List A) (places : List ℕ) (found : List A) (place : ℕ) (a : A)
    → at_places run places ≡ Some found → slice_get run place ≡ Some a
    → at_places run (places ++ place ∷ []) ≡ Some (found ++ a ∷ [])
at_places-more run [] found place a h k = rw k (ap (λ xs. Some (xs ++ a ∷ [])) (same_Some _ _ h))
at_places-more {A = A} run (first ∷ places) found place a h k =
    more_by (slice_get run first) (at_places run places) found h
    (λ rest e. at_places-more run places rest place a e k) where
      more_by : (o : Option A) (rests : Option (List A)) (found : List A)
          → option_and_then (λ x. option_map (λ xs. x ∷ xs) rests) o ≡ Some found
          → ((rest : List A) → rests ≡ Some rest
          → at_places run (places ++ place ∷ []) ≡ Some (rest ++ a ∷ []))
          → option_and_then (λ x. option_map (λ xs. x ∷ xs) (at_places run (places ++ place ∷ [])))
          o ≡ Some (found ++ a ∷ [])
      more_by None rests found h more = cc
      more_by (Some x) None found h more = cc
      more_by (Some x) (Some rest) found h more =
          rw (more rest refl) (ap (λ o. option_map (λ xs. xs ++ a ∷ []) o) h)

-- what a place on the bench means
meant_at : {A V : Type 0} (m : V → A) (run : List V) (place : ℕ) (x : V)
    → slice_get run place ≡ Some x
    → slice_get (map m run) place ≡ Some (m x)
meant_at m run place x h = slice_get-map m run place ∙ ap (option_map m) h

-- one more result is written
pub put_more : {A V : Type 0} (m : V → A) (run : List V) (outs : List ℕ) (results : List V) (i : ℕ)
    (x : V)
    → i < length outs → i < length results → slice_get run (get_or outs i 0) ≡ Some x
    → at_places (map m run) (take i outs) ≡ Some (map m (take i results))
    → at_places (map m run) (take (i + 1) outs) ≡ Some (map m (take (i + 1) (set results i x)))
put_more m run outs results i x h room at so_far =
    rw (
      take_more outs i 0 h,
      take_more_set results i x room,
      map-append m (take i results) (x ∷ []),
    )
    (at_places-more (map m run) (take i outs) (map m (take i results)) (get_or outs i 0) (m x)
    so_far
    (meant_at m run (get_or outs i 0) x at))

-- all results are written
pub put_all : {A V : Type 0} (m : V → A) (run : List V) (outs : List ℕ) (results : List V) (i : ℕ)
    → length outs ≤ i → length results ≤ i
    → at_places (map m run) (take i outs) ≡ Some (map m (take i results))
    → at_places (map m run) outs ≡ Some (map m results)
put_all m run outs results i h room so_far =
    rw (take_all i outs h, take_all i results room) at so_far

-- there is a result at each place of the run
all_found : {A : Type 0} (run : List A) (fallback : A) (places : List ℕ)
    → All (λ place. place < length run) places
    → (found : List A) × (at_places run places ≡ Some found)
all_found run fallback [] h = ([], refl)
all_found {A = A} run fallback (place ∷ places) h =
    let here : place < length run = All-head (λ (p : ℕ). p < length run) place places h in
    let rest : (found : List A) × (at_places run places ≡ Some found) =
    all_found run fallback places (All-tail (λ (p : ℕ). p < length run) place places h) in
    (get_or run place fallback ∷ rest.0, rw (slice_get-get_or run place fallback here, rest.1) refl)

first_found : {A : Type 0} (run : List A) (places : List ℕ) (a : A)
    → All (λ place. place < length run) places
    → 1 ≤ length places → slice_get run (get_or places 0 0) ≡ Some a
    → first_result (at_places run places) ≡ Some a
first_found run [] a h some at = absurd (omega arith)
first_found {A = A} run (place ∷ places) a h some at =
    let rest : (found : List A) × (at_places run places ≡ Some found) =
    all_found run a places (All-tail (λ (p : ℕ). p < length run) place places h) in
    rw (at, rest.1) refl

-- the first result of a run
pub first_value : {A V : Type 0} (m : V → A) (run : List V) (outs : List ℕ) (count : ℕ) (x : V)
    → length run ≡ count → All (λ place. place < count) outs → 1 ≤ length outs
    → slice_get run (get_or outs 0 0) ≡ Some x → first_result (at_places (map m run) outs)
    ≡ Some (m x)
first_value m run outs count x e placed some at =
    let whole : count ≡ length (map m run) = sym e ∙ sym (length-map run m) in
    let placed_here : All (λ (p : ℕ). p < length (map m run)) outs =
    λ k d h. let p : get_or outs k d < count = placed k d h in omega arith in
    first_found (map m run) outs (m x) placed_here some (meant_at m run (get_or outs 0 0) x at)
