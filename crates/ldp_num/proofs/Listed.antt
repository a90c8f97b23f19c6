-- The results of a formula over the lists that values mean are the lists that its results mean. So
-- a run of carrier 0 is a run over numbers, a run of carrier 1 is a run over pairs, a run of carrier
-- 2 is one over items of slopes, and a run of carrier 3 is one over twins.
use Rattle.std.specs.Prelude.{◌≡◌, ℕ, ℤ, List, [], ◌∷◌, ◌++◌, map, slice_get, Option, Some, None}
use Rattle.std.specs.Prelude.{option_map, option_and_then, refl}
use Rattle.std.proofs.Common.{◌∙◌, ap, sym}
use Rattle.std.proofs.lemmas.Option.{slice_get-map}
use Rattle.std.proofs.lemmas.List.{map-append}
use Rattle.ldp_num.specs.declared.step.Step.{Step}
use Rattle.ldp_num.specs.declared.step.Step.TheVariants.{Const, Input, Add, Sub, Mul, Div, Sq, Sqrt}
use Rattle.ldp_num.specs.declared.step.Step.TheVariants.{Need}
use Rattle.ldp_num.specs.Slopes.{Known, item}
use Rattle.ldp_num.specs.Written.{Ops, of_one, of_two, listed, number_ops, range_ops, slope_ops}
use Rattle.ldp_num.specs.Written.{twin_ops, plain_in, plain_out, pair_in, pair_out, slopes_in}
use Rattle.ldp_num.specs.Written.{slopes_out, slope_in, slope_out, twin_in, twin_out}
use Rattle.ldp_num.specs.Steps.{at_one, at_two, step_value, results_from, results_of}
use Rattle.ldp_num.specs.StepList.{StepList, at_places, value_in}
use Rattle.ldp_num.specs.Laws.{PlainValue, PlainTold, PairValue, PairTold, SlopeValue, SlopeTold}
use Rattle.ldp_num.specs.Laws.{SlopeBack, TwinValue, TwinTold}

one_listed : {A : Type 0} (from : List ℤ → Option A) (out : A → List ℤ)
    → ((a : A) → from (out a) ≡ Some a)
    → (f : A → Option A) (x : Option A)
    → option_and_then (of_one from out f) (option_map out x) ≡ option_map out (option_and_then f x)
one_listed from out back f None = refl
one_listed from out back f (Some a) = rw (back a)

two_listed : {A : Type 0} (from : List ℤ → Option A) (out : A → List ℤ)
    → ((a : A) → from (out a) ≡ Some a)
    → (f : A → A → Option A) (x y : Option A)
    → option_and_then (λ p. option_and_then (of_two from out f p) (option_map out y))
    (option_map out x)
    ≡ option_map out (option_and_then (λ a. option_and_then (f a) y) x)
two_listed from out back f None y = refl
two_listed from out back f (Some a) None = refl
two_listed from out back f (Some a) (Some b) = rw (back a, back b)

at_one_listed : {A : Type 0} (from : List ℤ → Option A) (out : A → List ℤ)
    → ((a : A) → from (out a) ≡ Some a)
    → (f : A → Option A) (done : List A) (a : ℕ)
    → at_one (of_one from out f) (map out done) a ≡ option_map out (at_one f done a)
at_one_listed from out back f done a =
    rw (slice_get-map out done a) (one_listed from out back f (slice_get done a))

at_two_listed : {A : Type 0} (from : List ℤ → Option A) (out : A → List ℤ)
    → ((a : A) → from (out a) ≡ Some a)
    → (f : A → A → Option A) (done : List A) (a b : ℕ)
    → at_two (of_two from out f) (map out done) a b ≡ option_map out (at_two f done a b)
at_two_listed from out back f done a b =
    rw (slice_get-map out done a, slice_get-map out done b)
    (two_listed from out back f (slice_get done a) (slice_get done b))

step_listed : {A : Type 0} (from : List ℤ → Option A) (out : A → List ℤ)
    → ((a : A) → from (out a) ≡ Some a)
    → (ops : Ops A) (inputs done : List A) (step : Step)
    → step_value (listed from out ops) (map out inputs) (map out done) step
    ≡ option_map out (step_value ops inputs done step)
step_listed from out back ops inputs done (Const v) = refl
step_listed from out back ops inputs done (Input i) = slice_get-map out inputs i
step_listed from out back ops inputs done (Add a b) = at_two_listed from out back ops.add done a b
step_listed from out back ops inputs done (Sub a b) = at_two_listed from out back ops.sub done a b
step_listed from out back ops inputs done (Mul a b) = at_two_listed from out back ops.mul done a b
step_listed from out back ops inputs done (Div a b) = at_two_listed from out back ops.div done a b
step_listed from out back ops inputs done (Sq a) = at_one_listed from out back ops.sq done a
step_listed from out back ops inputs done (Sqrt a) = at_one_listed from out back ops.sqrt done a
step_listed from out back ops inputs done (Need a) = at_one_listed from out back ops.need done a

-- one more result, and then the rest
after : {A : Type 0} (out : A → List ℤ) (over_lists : List (List ℤ) → Option (List (List ℤ)))
    (over_values : List A → Option (List A))
    (done : List A) (v : Option A)
    → ((ds : List A) → over_lists (map out ds) ≡ option_map (map out) (over_values ds))
    → option_and_then (λ x. over_lists (map out done ++ x ∷ [])) (option_map out v)
    ≡ option_map (map out) (option_and_then (λ x. over_values (done ++ x ∷ [])) v)
after out over_lists over_values done None h = refl
after out over_lists over_values done (Some x) h =
    ap over_lists (sym (map-append out done (x ∷ []))) ∙ h (done ++ x ∷ [])

results_from_listed : {A : Type 0} (from : List ℤ → Option A) (out : A → List ℤ)
    → ((a : A) → from (out a) ≡ Some a)
    → (ops : Ops A) (inputs done : List A) (steps : List Step)
    → results_from (listed from out ops) (map out inputs) (map out done) steps
    ≡ option_map (map out) (results_from ops inputs done steps)
results_from_listed from out back ops inputs done [] = refl
results_from_listed from out back ops inputs done (step ∷ steps) =
    rw (step_listed from out back ops inputs done step)
    (after out (λ ds. results_from (listed from out ops) (map out inputs) ds steps)
    (λ ds. results_from ops inputs ds steps) done
    (step_value ops inputs done step) (λ ds. results_from_listed from out back ops inputs ds steps))

-- over any values: the results over what the values mean are what the results mean
results_listed : {A : Type 0} (from : List ℤ → Option A) (out : A → List ℤ)
    → ((a : A) → from (out a) ≡ Some a)
    → (ops : Ops A) (inputs : List A) (steps : List Step)
    → results_of (listed from out ops) (map out inputs) steps
    ≡ option_map (map out) (results_of ops inputs steps)
results_listed from out back ops inputs steps =
    results_from_listed from out back ops inputs [] steps

-- the results at some places, over what the results mean
places_listed : {A B : Type 0} (f : A → B) (results : List A) (places : List ℕ)
    → at_places (map f results) places ≡ option_map (map f) (at_places results places)
places_listed f results [] = refl
places_listed {A = A} {B = B} f results (place ∷ places) =
    rw (slice_get-map f results place, places_listed f results places)
    (first_by (slice_get results place) (at_places results places)) where
      first_by : (x : Option A) (xs : Option (List A))
          → option_and_then (λ y. option_map (λ ys. y ∷ ys) (option_map (map f) xs))
          (option_map f x)
          ≡ option_map (map f) (option_and_then (λ y. option_map (λ ys. y ∷ ys) xs) x)
      first_by None xs = refl
      first_by (Some y) None = refl
      first_by (Some y) (Some ys) = refl

-- the value of a list, over any values
value_listed : {A : Type 0} (from : List ℤ → Option A) (out : A → List ℤ)
    → ((a : A) → from (out a) ≡ Some a)
    → (ops : Ops A) (list : StepList) (inputs : List A)
    → value_in (listed from out ops) list (map out inputs)
    ≡ option_map (map out) (value_in ops list inputs)
value_listed {A = A} from out back ops list inputs =
    rw (results_listed from out back ops inputs list.steps)
    (places_by (results_of ops inputs list.steps)) where
      places_by : (results : Option (List A))
          → option_and_then (λ found. at_places found list.outs) (option_map (map out) results)
          ≡ option_map (map out) (option_and_then (λ found. at_places found list.outs) results)
      places_by None = refl
      places_by (Some found) = places_listed out found list.outs

-- the values that lists mean, where each list means one
abbrev back : {A : Type 0} → (List ℤ → Option A) → List (List ℤ) → Option (List A)
back from [] = Some []
back from (list ∷ lists) =
    option_and_then (λ a. option_map (λ values. a ∷ values) (back from lists)) (from list)

back_out : {A : Type 0} (from : List ℤ → Option A) (out : A → List ℤ)
    → ((a : A) → from (out a) ≡ Some a)
    → (values : List A) → back from (map out values) ≡ Some values
back_out from out same [] = refl
back_out from out same (a ∷ values) = rw (same a, back_out from out same values) refl

back_of_results : {A : Type 0} (from : List ℤ → Option A) (out : A → List ℤ)
    → ((a : A) → from (out a) ≡ Some a)
    → (results : Option (List A)) → option_and_then (back from) (option_map (map out) results)
    ≡ results
back_of_results from out same None = refl
back_of_results from out same (Some values) = back_out from out same values

-- what the value over the lists that values mean says of the value over the values
value_told : {A : Type 0} (from : List ℤ → Option A) (out : A → List ℤ)
    → ((a : A) → from (out a) ≡ Some a)
    → (ops : Ops A) (list : StepList) (inputs : List A) (found : Option (List A))
    → value_in (listed from out ops) list (map out inputs) ≡ option_map (map out) found
    → value_in ops list inputs ≡ found
value_told from out same ops list inputs found h =
    sym (back_of_results from out same (value_in ops list inputs))
    ∙ ap (option_and_then (back from)) (sym (value_listed from out same ops list inputs) ∙ h)
    ∙ back_of_results from out same found

-- carrier 0 runs over numbers
pub plain_value : PlainValue
plain_value list inputs = value_listed plain_in plain_out (λ a. refl) number_ops list inputs

pub plain_told : PlainTold
plain_told list inputs found h =
    value_told plain_in plain_out (λ a. refl) number_ops list inputs found h

-- carrier 1 runs over pairs
pub pair_value : PairValue
pair_value list inputs = value_listed pair_in pair_out (λ a. refl) range_ops list inputs

pub pair_told : PairTold
pair_told list inputs found h =
    value_told pair_in pair_out (λ a. refl) range_ops list inputs found h

-- the item that a list means is the one that it was made of
slopes_back : (slopes : List (ℤ × ℤ)) → slopes_in (slopes_out slopes) ≡ Some slopes
slopes_back [] = refl
slopes_back (s ∷ slopes) = rw (slopes_back slopes) refl

pub slope_back : SlopeBack
slope_back a = known_back a.known where
  known_back : (k : Option Known) → slope_in (slope_out (item k a.range)) ≡ Some (item k a.range)
  known_back None = refl
  known_back (Some k) = rw (slopes_back k.slopes) refl

-- carrier 2 runs over items of slopes
pub slope_value : SlopeValue
slope_value list inputs = value_listed slope_in slope_out slope_back slope_ops list inputs

pub slope_told : SlopeTold
slope_told list inputs found h =
    value_told slope_in slope_out slope_back slope_ops list inputs found h

-- carrier 3 runs over twins
pub twin_value : TwinValue
twin_value list inputs = value_listed twin_in twin_out (λ a. refl) twin_ops list inputs

pub twin_told : TwinTold
twin_told list inputs found h = value_told twin_in twin_out (λ a. refl) twin_ops list inputs found h
