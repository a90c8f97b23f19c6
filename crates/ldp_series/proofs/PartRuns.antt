-- Runs of one more step, over more inputs, and of a step that was moved to a part.
use Rattle.std.proofs.Common.{◌≡◌, ℕ, zero, suc, ◌+◌, ◌<◌, ◌≤◌, List, [], ◌∷◌, ◌++◌, length}
use Rattle.std.proofs.Common.{arith, refl, ap, subst, ◌∙◌}
use Rattle.std.proofs.lemmas.List.{length_push}
use Rattle.std.proofs.lemmas.Option.{same_Some, none-some, option_and_then_some}
use Rattle.std.specs.Prelude.{Option, None, Some, option_map, option_and_then, slice_get}
use Rattle.ldp_num.specs.declared.step.Step.{Step}
use Rattle.ldp_num.specs.declared.step.Step.TheVariants.{Const, Input, Add, Sub, Mul, Div, Sq, Sqrt}
use Rattle.ldp_num.specs.declared.step.Step.TheVariants.{Need}
use Rattle.ldp_num.specs.Written.{Ops}
use Rattle.ldp_num.specs.Steps.{StepFits, StepsFit, step_value, results_from, results_of}
use Rattle.ldp_num.specs.StepList.{at_places}
use Rattle.ldp_series.specs.Cut.{IsMoved, AreMoved}
use Rattle.ldp_series.proofs.Stands.{Stand, Within, get_front, get_left}

map_then : {A B : Type 0} (f : A → B) (o : Option A)
    → option_and_then (λ x. Some (f x)) o ≡ option_map f o
map_then f None = refl
map_then f (Some x) = refl

then_same : {A B : Type 0} (f g : A → Option B) (o : Option A) → ((x : A) → f x ≡ g x)
    → option_and_then f o ≡ option_and_then g o
then_same f g None h = refl
then_same f g (Some x) h = h x

then_then : {A B C : Type 0} (f : A → Option B) (g : B → Option C) (o : Option A)
    → option_and_then (λ x. option_and_then g (f x)) o
    ≡ option_and_then g (option_and_then f o)
then_then f g None = refl
then_then f g (Some x) = refl

-- one more step
push_from : {A : Type 0} (ops : Ops A) (inputs done : List A) (steps : List Step) (s : Step)
    → results_from ops inputs done (steps ++ s ∷ [])
    ≡ option_and_then (λ vs. option_map (λ v. vs ++ v ∷ []) (step_value ops inputs vs s))
    (results_from ops inputs done steps)
push_from ops inputs done [] s = map_then (λ v. done ++ v ∷ []) (step_value ops inputs done s)
push_from ops inputs done (t ∷ steps) s =
    then_same (λ v. results_from ops inputs (done ++ v ∷ []) (steps ++ s ∷ []))
    (λ v. option_and_then (λ vs. option_map (λ v. vs ++ v ∷ []) (step_value ops inputs vs s))
    (results_from ops inputs (done ++ v ∷ []) steps))
    (step_value ops inputs done t)
    (λ v. push_from ops inputs (done ++ v ∷ []) steps s)
    ∙ then_then (λ v. results_from ops inputs (done ++ v ∷ []) steps)
    (λ vs. option_map (λ v. vs ++ v ∷ []) (step_value ops inputs vs s))
    (step_value ops inputs done t)

pub run_some : {A : Type 0} (ops : Ops A) (inputs : List A) (steps : List Step) (s : Step)
    (vs : List A) (v : A)
    → results_of ops inputs steps ≡ Some vs → step_value ops inputs vs s ≡ Some v
    → results_of ops inputs (steps ++ s ∷ []) ≡ Some (vs ++ v ∷ [])
run_some ops inputs steps s vs v h k = rw (push_from ops inputs [] steps s, h, k) refl

pub run_none : {A : Type 0} (ops : Ops A) (inputs : List A) (steps : List Step) (s : Step)
    (vs : List A)
    → results_of ops inputs steps ≡ Some vs → step_value ops inputs vs s ≡ None
    → results_of ops inputs (steps ++ s ∷ []) ≡ None
run_none ops inputs steps s vs h k = rw (push_from ops inputs [] steps s, h, k) refl

pub run_stop : {A : Type 0} (ops : Ops A) (inputs : List A) (steps : List Step) (s : Step)
    → results_of ops inputs steps ≡ None → results_of ops inputs (steps ++ s ∷ []) ≡ None
run_stop ops inputs steps s h = rw (push_from ops inputs [] steps s, h) refl

-- there is a result for each step
count_from : {A : Type 0} (ops : Ops A) (inputs done : List A) (steps : List Step)
    (results : List A)
    → results_from ops inputs done steps ≡ Some results
    → length results ≡ length done + length steps
count_from ops inputs done [] results h =
    let count : length done ≡ length results = ap length (same_Some done results h) in
    omega arith
count_from ops inputs done (step ∷ steps) results h =
    option_and_then_some (λ v. results_from ops inputs (done ++ v ∷ []) steps)
    (step_value ops inputs done step) results h (λ v is more.
    let count : length results ≡ length (done ++ v ∷ []) + length steps =
    count_from ops inputs (done ++ v ∷ []) steps results more in
    let pushed : length (done ++ v ∷ []) ≡ length done + 1 = length_push done v in
    omega arith)

pub run_count : {A : Type 0} (ops : Ops A) (inputs : List A) (steps : List Step) (results : List A)
    → results_of ops inputs steps ≡ Some results → length results ≡ length steps
run_count ops inputs steps results h =
    let count : length results ≡ 0 + length steps = count_from ops inputs [] steps results h in
    omega arith

-- more inputs change nothing for a step, and for steps, that fit
wider_value : {A : Type 0} (ops : Ops A) (inputs more done : List A) (before : ℕ) (step : Step)
    → StepFits (length inputs) before step
    → step_value ops (inputs ++ more) done step ≡ step_value ops inputs done step
wider_value ops inputs more done before (Const v) h = refl
wider_value ops inputs more done before (Input i) h = get_left inputs more i h
wider_value ops inputs more done before (Add a b) h = refl
wider_value ops inputs more done before (Sub a b) h = refl
wider_value ops inputs more done before (Mul a b) h = refl
wider_value ops inputs more done before (Div a b) h = refl
wider_value ops inputs more done before (Sq a) h = refl
wider_value ops inputs more done before (Sqrt a) h = refl
wider_value ops inputs more done before (Need a) h = refl

wider_from : {A : Type 0} (ops : Ops A) (inputs more done : List A) (before : ℕ)
    (steps : List Step) → StepsFit (length inputs) before steps
    → results_from ops (inputs ++ more) done steps ≡ results_from ops inputs done steps
wider_from ops inputs more done before [] h = refl
wider_from ops inputs more done before (s ∷ steps) h =
    then_same (λ v. results_from ops (inputs ++ more) (done ++ v ∷ []) steps)
    (λ v. results_from ops inputs (done ++ v ∷ []) steps)
    (step_value ops (inputs ++ more) done s)
    (λ v. wider_from ops inputs more (done ++ v ∷ []) (before + 1) steps h.1)
    ∙ ap (option_and_then (λ v. results_from ops inputs (done ++ v ∷ []) steps))
    (wider_value ops inputs more done before s h.0)

pub wider : {A : Type 0} (ops : Ops A) (inputs more : List A) (steps : List Step)
    → StepsFit (length inputs) 0 steps
    → results_of ops (inputs ++ more) steps ≡ results_of ops inputs steps
wider ops inputs more steps h = wider_from ops inputs more [] 0 steps h

-- a step that was moved has the same value over the part
pub moved_value : {A : Type 0} (ops : Ops A) (inputs others values part : List A) (n : ℕ)
    (places : List (Option ℕ)) (step moved : Step)
    → Stand values places part → ((i : ℕ) → i < n → slice_get inputs i ≡ slice_get others i)
    → IsMoved n places step moved
    → step_value ops inputs values step ≡ step_value ops others part moved
moved_value ops inputs others values part n places (Const v) moved st same m = rw m refl
moved_value ops inputs others values part n places (Input i) moved st same m =
    rw m.1 (same i m.0)
moved_value ops inputs others values part n places (Add a b) moved st same m =
    let l = st a m.left m.left_stands in
    let r = st b m.right m.right_stands in
    rw (m.made, l.here, l.there, r.here, r.there) refl
moved_value ops inputs others values part n places (Sub a b) moved st same m =
    let l = st a m.left m.left_stands in
    let r = st b m.right m.right_stands in
    rw (m.made, l.here, l.there, r.here, r.there) refl
moved_value ops inputs others values part n places (Mul a b) moved st same m =
    let l = st a m.left m.left_stands in
    let r = st b m.right m.right_stands in
    rw (m.made, l.here, l.there, r.here, r.there) refl
moved_value ops inputs others values part n places (Div a b) moved st same m =
    let l = st a m.left m.left_stands in
    let r = st b m.right m.right_stands in
    rw (m.made, l.here, l.there, r.here, r.there) refl
moved_value ops inputs others values part n places (Sq a) moved st same m =
    let l = st a m.of m.stands in
    rw (m.made, l.here, l.there) refl
moved_value ops inputs others values part n places (Sqrt a) moved st same m =
    let l = st a m.of m.stands in
    rw (m.made, l.here, l.there) refl
moved_value ops inputs others values part n places (Need a) moved st same m =
    let l = st a m.of m.stands in
    rw (m.made, l.here, l.there) refl

-- and it fits there
pub moved_fits : (inputs wide before n size : ℕ) (places : List (Option ℕ)) (step moved : Step)
    → StepFits inputs before step → Within places size → IsMoved n places step moved → n ≤ wide
    → StepFits wide size moved
moved_fits inputs wide before n size places (Const v) moved f w m le = rw m f
moved_fits inputs wide before n size places (Input i) moved f w m le =
    rw m.1 (let below : i < n = m.0 in omega arith)
moved_fits inputs wide before n size places (Add a b) moved f w m le =
    rw m.made (w a m.left m.left_stands, w b m.right m.right_stands)
moved_fits inputs wide before n size places (Sub a b) moved f w m le =
    rw m.made (w a m.left m.left_stands, w b m.right m.right_stands)
moved_fits inputs wide before n size places (Mul a b) moved f w m le =
    rw m.made (w a m.left m.left_stands, w b m.right m.right_stands)
moved_fits inputs wide before n size places (Div a b) moved f w m le =
    rw m.made (w a m.left m.left_stands, w b m.right m.right_stands)
moved_fits inputs wide before n size places (Sq a) moved f w m le =
    rw m.made (w a m.of m.stands)
moved_fits inputs wide before n size places (Sqrt a) moved f w m le =
    rw m.made (w a m.of m.stands)
moved_fits inputs wide before n size places (Need a) moved f w m le =
    rw m.made (w a m.of m.stands)

-- steps that fit over some inputs do over more
fits_wide : (inputs wide before : ℕ) (step : Step) → StepFits inputs before step → inputs ≤ wide
    → StepFits wide before step
fits_wide inputs wide before (Const v) h le = h
fits_wide inputs wide before (Input i) h le = let below : i < inputs = h in omega arith
fits_wide inputs wide before (Add a b) h le = h
fits_wide inputs wide before (Sub a b) h le = h
fits_wide inputs wide before (Mul a b) h le = h
fits_wide inputs wide before (Div a b) h le = h
fits_wide inputs wide before (Sq a) h le = h
fits_wide inputs wide before (Sqrt a) h le = h
fits_wide inputs wide before (Need a) h le = h

pub fit_wide : (inputs wide before : ℕ) (steps : List Step) → StepsFit inputs before steps
    → inputs ≤ wide → StepsFit wide before steps
fit_wide inputs wide before [] h le = tt
fit_wide inputs wide before (s ∷ steps) h le =
    (fits_wide inputs wide before s h.0 le, fit_wide inputs wide (before + 1) steps h.1 le)

-- each step of a list that fits does
fits_from : (inputs before i : ℕ) (steps : List Step) (step : Step) → StepsFit inputs before steps
    → slice_get steps i ≡ Some step
    → StepFits inputs (before + i) step
fits_from inputs before i [] step h e = absurd (none-some step e)
fits_from inputs before zero (s ∷ steps) step h e =
    let at : before ≡ before + 0 = omega arith in
    subst (λ (n : ℕ). StepFits inputs n step) at
    (subst (StepFits inputs before) (same_Some s step e) h.0)
fits_from inputs before (suc i) (s ∷ steps) step h e =
    let at : before + 1 + i ≡ before + suc i = omega arith in
    subst (λ (n : ℕ). StepFits inputs n step) at (fits_from inputs (before + 1) i steps step h.1 e)

pub step_fits : (inputs i : ℕ) (steps : List Step) (step : Step) → StepsFit inputs 0 steps
    → slice_get steps i ≡ Some step
    → StepFits inputs (0 + i) step
step_fits inputs i steps step h e = fits_from inputs 0 i steps step h e

-- results at places stay where more results follow
map_some : {A B P : Type 0} (f : A → B) (o : Option A) (y : B) → option_map f o ≡ Some y
    → ((x : A) → o ≡ Some x → f x ≡ y → P) → P
map_some f None y h k = absurd (none-some y h)
map_some f (Some x) y h k = k x refl (same_Some (f x) y h)

pub places_front : {A : Type 0} (run more : List A) (places : List ℕ) (found : List A)
    → at_places run places ≡ Some found → at_places (run ++ more) places ≡ Some found
places_front run more [] found h = h
places_front run more (p ∷ places) found h =
    option_and_then_some (λ x. option_map (λ xs. x ∷ xs) (at_places run places))
    (slice_get run p) found h (λ x is rest.
    map_some (λ xs. x ∷ xs) (at_places run places) found rest (λ xs found_too made.
    rw (get_front run more p x is, places_front run more places xs found_too)
    (ap Some made)))

-- the results at the places where others stand
pub moved_places : {A : Type 0} (values part : List A) (places : List (Option ℕ))
    (outs moved : List ℕ) → Stand values places part → AreMoved places outs moved
    → at_places values outs ≡ at_places part moved
moved_places values part places [] [] st m = refl
moved_places values part places [] (k ∷ moved) st m = absurd m
moved_places values part places (out ∷ outs) [] st m = absurd m
moved_places values part places (out ∷ outs) (k ∷ moved) st m =
    let s = st out k m.0 in
    rw (s.here, s.there, moved_places values part places outs moved st m.1) refl

pub moved_push : (places : List (Option ℕ)) (outs moved : List ℕ) (out at : ℕ)
    → AreMoved places outs moved → slice_get places out ≡ Some (Some at)
    → AreMoved places (outs ++ out ∷ []) (moved ++ at ∷ [])
moved_push places [] [] out at m h = (h, tt)
moved_push places [] (k ∷ moved) out at m h = absurd m
moved_push places (o ∷ outs) [] out at m h = absurd m
moved_push places (o ∷ outs) (k ∷ moved) out at m h =
    (m.0, moved_push places outs moved out at m.1 h)

pub moved_count : (places : List (Option ℕ)) (outs moved : List ℕ)
    → AreMoved places outs moved → length moved ≡ length outs
moved_count places [] [] m = refl
moved_count places [] (k ∷ moved) m = absurd m
moved_count places (o ∷ outs) [] m = absurd m
moved_count places (o ∷ outs) (k ∷ moved) m = ap suc (moved_count places outs moved m.1)
