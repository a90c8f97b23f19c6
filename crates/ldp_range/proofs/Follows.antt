-- Where each operation follows, so does every list of steps, and its value.
use Rattle.std.specs.Prelude.{◌≡◌, ℕ, zero, suc, List, [], ◌∷◌, ◌++◌, slice_get, Option, None, Some}
use Rattle.std.specs.Prelude.{option_map, option_and_then, refl}
use Rattle.std.proofs.Common.{subst}
use Rattle.std.proofs.lemmas.Option.{option_and_then_some, same_Some}
use Rattle.ldp_num.specs.declared.step.Step.{Step}
use Rattle.ldp_num.specs.declared.step.Step.TheVariants.{Const, Input, Add, Sub, Mul, Div, Sq, Sqrt}
use Rattle.ldp_num.specs.declared.step.Step.TheVariants.{Need}
use Rattle.ldp_num.specs.Written.{Ops}
use Rattle.ldp_num.specs.Steps.{at_one, at_two, step_value, results_from, results_of}
use Rattle.ldp_num.specs.StepList.{at_places}
use Rattle.ldp_range.specs.Related.{Pairwise, Reaches, FollowsOne, FollowsTwo, Follows}
use Rattle.ldp_range.specs.Related.{ResultsFollow, ValuesFollow}

get_related : {A B : Type 0} (R : A → B → Type 0) (xs : List A) (ys : List B) → Pairwise R xs ys
    → (i : ℕ) (t : B) → slice_get ys i ≡ Some t → Reaches R (slice_get xs i) t
get_related R [] [] both i t e = cc
get_related R [] (y ∷ ys) both i t e = absurd both
get_related R (x ∷ xs) [] both i t e = absurd both
get_related R (x ∷ xs) (y ∷ ys) both zero t e =
    record { value = x; is = refl; related = subst (R x) (same_Some y t e) both.0 }
get_related R (x ∷ xs) (y ∷ ys) both (suc i) t e = get_related R xs ys both.1 i t e

one_related : {A B : Type 0} (R : A → B → Type 0) (f : A → Option A) (g : B → Option B)
    → FollowsOne R f g
    → (left_done : List A) (right_done : List B) → Pairwise R left_done right_done → (a : ℕ) (t : B)
    → at_one g right_done a ≡ Some t → Reaches R (at_one f left_done a) t
one_related R f g follows left_done right_done both a t e =
    option_and_then_some g (slice_get right_done a) t e (λ x is value.
    let reached = get_related R left_done right_done both a x is in
    rw reached.is (follows reached.value x t reached.related value))

two_related : {A B : Type 0} (R : A → B → Type 0) (f : A → A → Option A) (g : B → B → Option B)
    → FollowsTwo R f g
    → (left_done : List A) (right_done : List B) → Pairwise R left_done right_done
    → (a b : ℕ) (t : B)
    → at_two g right_done a b ≡ Some t → Reaches R (at_two f left_done a b) t
two_related R f g follows left_done right_done both a b t e =
    option_and_then_some (λ x. option_and_then (g x) (slice_get right_done b))
    (slice_get right_done a) t e (λ x is rest.
    let reached = get_related R left_done right_done both a x is in
    rw reached.is (one_related R (f reached.value) (g x)
    (λ c d u near value. follows reached.value c x d u reached.related near value)
    left_done right_done both b t rest))

step_related : {A B : Type 0} (R : A → B → Type 0) (f : Ops A) (g : Ops B) → Follows R f g
    → (left left_done : List A) (right right_done : List B) → Pairwise R left right
    → Pairwise R left_done right_done
    → (step : Step) (t : B) → step_value g right right_done step ≡ Some t
    → Reaches R (step_value f left left_done step) t
step_related R f g follows left left_done right right_done near both (Const v) t e =
    record {
      value = f.constant v;
      is = refl;
      related =
          subst (R (f.constant v)) (same_Some (g.constant v) t e) (follows.constant v);
    }
step_related R f g follows left left_done right right_done near both (Input i) t e =
    get_related R left right near i t e
step_related R f g follows left left_done right right_done near both (Add a b) t e =
    two_related R f.add g.add follows.add left_done right_done both a b t e
step_related R f g follows left left_done right right_done near both (Sub a b) t e =
    two_related R f.sub g.sub follows.sub left_done right_done both a b t e
step_related R f g follows left left_done right right_done near both (Mul a b) t e =
    two_related R f.mul g.mul follows.mul left_done right_done both a b t e
step_related R f g follows left left_done right right_done near both (Div a b) t e =
    two_related R f.div g.div follows.div left_done right_done both a b t e
step_related R f g follows left left_done right right_done near both (Sq a) t e =
    one_related R f.sq g.sq follows.sq left_done right_done both a t e
step_related R f g follows left left_done right right_done near both (Sqrt a) t e =
    one_related R f.sqrt g.sqrt follows.sqrt left_done right_done both a t e
step_related R f g follows left left_done right right_done near both (Need a) t e =
    one_related R f.need g.need follows.need left_done right_done both a t e

more_related : {A B : Type 0} (R : A → B → Type 0) (xs : List A) (ys : List B) → Pairwise R xs ys
    → (x : A) (y : B) → R x y → Pairwise R (xs ++ x ∷ []) (ys ++ y ∷ [])
more_related R [] [] both x y r = (r, tt)
more_related R [] (w ∷ ys) both x y r = absurd both
more_related R (v ∷ xs) [] both x y r = absurd both
more_related R (v ∷ xs) (w ∷ ys) both x y r = (both.0, more_related R xs ys both.1 x y r)

results_from_related : {A B : Type 0} (R : A → B → Type 0) (f : Ops A) (g : Ops B) → Follows R f g
    → (steps : List Step) (left left_done : List A) (right right_done results : List B)
    → Pairwise R left right → Pairwise R left_done right_done
    → results_from g right right_done steps ≡ Some results
    → Reaches (Pairwise R) (results_from f left left_done steps) results
results_from_related R f g follows [] left left_done right right_done results near both e =
    record {
      value = left_done;
      is = refl;
      related =
          subst (Pairwise R left_done) (same_Some right_done results e) both;
    }
results_from_related R f g follows (step ∷ steps) left left_done right right_done results near both
    e =
    option_and_then_some (λ v. results_from g right (right_done ++ v ∷ []) steps)
    (step_value g right right_done step) results e (λ y is rest.
    let reached = step_related R f g follows left left_done right right_done near both step y is in
    rw reached.is (results_from_related R f g follows steps left (left_done ++ reached.value ∷ [])
    right (right_done ++ y ∷ []) results near
    (more_related R left_done right_done both reached.value y reached.related) rest))

-- Where the operations of f follow those of g, every list of steps does.
pub results_follow : {A B : Type 0} (R : A → B → Type 0) (f : Ops A) (g : Ops B) → Follows R f g
    → ResultsFollow R f g
results_follow R f g follows steps left right found near e =
    results_from_related R f g follows steps left [] right [] found near tt e

mapped_some : {A B P : Type 0} (f : A → B) (o : Option A) (y : B) → option_map f o ≡ Some y
    → ((x : A) → o ≡ Some x → f x ≡ y → P) → P
mapped_some f None y e k = cc
mapped_some f (Some x) y e k = k x refl (same_Some (f x) y e)

places_related : {A B : Type 0} (R : A → B → Type 0) (left : List A) (right : List B)
    → Pairwise R left right
    → (places : List ℕ) (found : List B) → at_places right places ≡ Some found
    → Reaches (Pairwise R) (at_places left places) found
places_related R left right both [] found e =
    record { value = []; is = refl; related = subst (Pairwise R []) (same_Some [] found e) tt }
places_related R left right both (place ∷ places) found e =
    option_and_then_some (λ x. option_map (λ xs. x ∷ xs) (at_places right places))
    (slice_get right place) found e (λ x is more.
    mapped_some (λ xs. x ∷ xs) (at_places right places) found more (λ xs are whole.
    let first = get_related R left right both place x is in
    let rest = places_related R left right both places xs are in
    rw (first.is, rest.is)
    (record {
      value = first.value ∷ rest.value;
      is = refl;
      related = subst (Pairwise R (first.value ∷ rest.value)) whole (first.related, rest.related);
    })))

-- And so does its value.
pub values_follow : {A B : Type 0} (R : A → B → Type 0) (f : Ops A) (g : Ops B) → Follows R f g
    → ValuesFollow R f g
values_follow R f g follows list left right found near e =
    option_and_then_some (λ results. at_places results list.outs) (results_of g right list.steps)
    found e (λ results is placed.
    let reached = results_follow R f g follows list.steps left right results near is in
    rw reached.is (places_related R reached.value results reached.related list.outs found placed))
