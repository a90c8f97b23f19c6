-- A group of steps that stands in a list: what it adds depends on the values of its operands alone.
use Rattle.std.proofs.Common.{◌≡◌, ℕ, zero, suc, ◌+◌, ◌<◌, Bool, true, false, List, [], ◌∷◌, ◌++◌}
use Rattle.std.proofs.Common.{map, length, refl, sym, ◌∙◌, arith, append_assoc, append-nil}
use Rattle.std.proofs.lemmas.Bool.{and_parts}
use Rattle.std.proofs.lemmas.List.{length-append}
use Rattle.std.proofs.lemmas.Option.{same_Some, option_and_then_some}
use Rattle.std.specs.Prelude.{Option, Some, None, option_and_then, slice_get, ◌&&◌}
use Rattle.ldp_num.specs.declared.step.Step.{Step}
use Rattle.ldp_num.specs.declared.step.Step.TheVariants.{Const, Input, Add, Sub, Mul, Div, Sq, Sqrt}
use Rattle.ldp_num.specs.declared.step.Step.TheVariants.{Need}
use Rattle.ldp_num.specs.Written.{Ops}
use Rattle.ldp_num.specs.Steps.{step_value, results_from}

-- a step with its operands at other places
abbrev pub moved : (ℕ → ℕ) → Step → Step
moved place (Const v) = Const v
moved place (Input i) = Input i
moved place (Add a b) = Add (place a) (place b)
moved place (Sub a b) = Sub (place a) (place b)
moved place (Mul a b) = Mul (place a) (place b)
moved place (Div a b) = Div (place a) (place b)
moved place (Sq a) = Sq (place a)
moved place (Sqrt a) = Sqrt (place a)
moved place (Need a) = Need (place a)

abbrev pub is_operation : Step → Bool
is_operation (Input i) = false
is_operation _ = true

abbrev pub are_operations : List Step → Bool
are_operations [] = true
are_operations (step ∷ steps) = is_operation step && are_operations steps

-- the results of a group after these results of its own
abbrev pub group_from : {A : Type 0} → Ops A → List A → List A → List Step → Option (List A)
group_from ops operands done [] = Some done
group_from ops operands done (step ∷ steps) =
    option_and_then (λ v. group_from ops operands (done ++ v ∷ []) steps)
    (step_value ops [] (operands ++ done) step)

-- each operand and result of the group stands in the list, at its place there
abbrev pub Matches : {A : Type 0} → (ℕ → ℕ) → List A → List A → Type 0
Matches {A = A} place before operands =
    (done : List A) (p : ℕ) → slice_get (before ++ done) (place p) ≡ slice_get (operands ++ done) p

step-moved : {A : Type 0} (ops : Ops A) (inputs before operands : List A) (place : ℕ → ℕ)
    (step : Step) → ((p : ℕ) → slice_get before (place p) ≡ slice_get operands p)
    → is_operation step ≡ true
    → step_value ops inputs before (moved place step) ≡ step_value ops [] operands step
step-moved ops inputs before operands place (Const v) at h = refl
step-moved ops inputs before operands place (Input i) at h = cc
step-moved ops inputs before operands place (Add a b) at h = rw (at a, at b) refl
step-moved ops inputs before operands place (Sub a b) at h = rw (at a, at b) refl
step-moved ops inputs before operands place (Mul a b) at h = rw (at a, at b) refl
step-moved ops inputs before operands place (Div a b) at h = rw (at a, at b) refl
step-moved ops inputs before operands place (Sq a) at h = rw (at a) refl
step-moved ops inputs before operands place (Sqrt a) at h = rw (at a) refl
step-moved ops inputs before operands place (Need a) at h = rw (at a) refl

-- the run of a group in a list
pub group-run : {A : Type 0} (ops : Ops A) (inputs before operands : List A) (place : ℕ → ℕ)
    (group rest : List Step) (done : List A) → Matches place before operands
    → are_operations group ≡ true
    → results_from ops inputs (before ++ done) (map (moved place) group ++ rest)
    ≡ option_and_then (λ new. results_from ops inputs (before ++ new) rest)
    (group_from ops operands done group)
group-run ops inputs before operands place [] rest done at h = refl
group-run {A = A} ops inputs before operands place (step ∷ group) rest done at h =
    let both = and_parts (is_operation step) (are_operations group) h in
    rw (step-moved ops inputs (before ++ done) (operands ++ done) place step (at done) both.0)
    (by_value (step_value ops [] (operands ++ done) step)
    (λ v. group-run ops inputs before operands place group rest (done ++ v ∷ []) at both.1)) where
      by_value : (o : Option A)
          → ((v : A)
          → results_from ops inputs (before ++ (done ++ v ∷ [])) (map (moved place) group ++ rest)
          ≡ option_and_then (λ new. results_from ops inputs (before ++ new) rest)
          (group_from ops operands (done ++ v ∷ []) group))
          → option_and_then
          (λ v.
          results_from ops inputs ((before ++ done) ++ v ∷ []) (map (moved place) group ++ rest)) o
          ≡ option_and_then (λ new. results_from ops inputs (before ++ new) rest)
          (option_and_then (λ v. group_from ops operands (done ++ v ∷ []) group) o)
      by_value None more = refl
      by_value (Some v) more = rw (append_assoc before done (v ∷ [])) (more v)

-- a run only appends
pub run-appends : {A : Type 0} (ops : Ops A) (inputs done : List A) (steps : List Step)
    (out : List A) → results_from ops inputs done steps ≡ Some out
    → (more : List A) × (out ≡ done ++ more)
run-appends ops inputs done [] out h = ([], sym (same_Some _ _ h) ∙ sym (append-nil done))
run-appends ops inputs done (step ∷ steps) out h =
    option_and_then_some _ _ _ h
    (λ v is k. let rest = run-appends ops inputs (done ++ v ∷ []) steps out k in
    (v ∷ rest.0, rest.1 ∙ append_assoc done (v ∷ []) rest.0))

-- a group has a result for each of its steps
pub group-length : {A : Type 0} (ops : Ops A) (operands done : List A) (group : List Step)
    (new : List A) → group_from ops operands done group ≡ Some new
    → length new ≡ length done + length group
group-length ops operands done [] new h = rw (sym (same_Some _ _ h)) (omega arith)
group-length ops operands done (step ∷ group) new h =
    option_and_then_some _ _ _ h
    (λ v is k. let rest = group-length ops operands (done ++ v ∷ []) group new k in
    let here = length-append done (v ∷ []) in omega (arith, rest, here))

-- what stands behind a list of this length
pub get-behind : {A : Type 0} (xs ys : List A) (n j : ℕ) → length xs ≡ n
    → slice_get (xs ++ ys) (n + j) ≡ slice_get ys j
get-behind [] ys n j h = let e : n + j ≡ j = omega arith in rw e refl
get-behind (x ∷ xs) ys n j h =
    let e : n + j ≡ suc (length xs + j) = omega arith in
    rw e (get-behind xs ys (length xs) j refl)

-- what stands in front
pub get-in_front : {A : Type 0} (xs ys : List A) (j : ℕ) → j < length xs
    → slice_get (xs ++ ys) j ≡ slice_get xs j
get-in_front [] ys j h = absurd (omega arith)
get-in_front (x ∷ xs) ys zero h = refl
get-in_front (x ∷ xs) ys (suc j) h = get-in_front xs ys j (omega arith)
