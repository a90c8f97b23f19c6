-- A list over items of slopes has the ranges of the list over their ranges, and is defined exactly
-- where that is.
use Rattle.std.specs.Prelude.{◌≡◌, ℕ, ℤ, List, [], ◌∷◌, ◌++◌, map, slice_get, Option, Some, None}
use Rattle.std.specs.Prelude.{option_map, option_and_then, refl}
use Rattle.std.proofs.Common.{◌∙◌, ap, sym}
use Rattle.std.proofs.lemmas.Option.{slice_get-map}
use Rattle.std.proofs.lemmas.List.{map-append}
use Rattle.ldp_num.specs.declared.step.Step.{Step}
use Rattle.ldp_num.specs.declared.step.Step.TheVariants.{Const, Input, Add, Sub, Mul, Div, Sq, Sqrt}
use Rattle.ldp_num.specs.declared.step.Step.TheVariants.{Need}
use Rattle.ldp_num.specs.Ranges.{pair_add, pair_sub, pair_mul, pair_div, pair_sq, pair_sqrt}
use Rattle.ldp_num.specs.Ranges.{pair_need}
use Rattle.ldp_num.specs.Slopes.{Known, Item, item, of_pair, known_add, known_sub, known_mul, known_div}
use Rattle.ldp_num.specs.Slopes.{known_sq, known_sqrt, known_need}
use Rattle.ldp_num.specs.Written.{range_ops, slope_ops}
use Rattle.ldp_num.specs.Steps.{at_one, at_two, step_value, results_from, results_of}
use Rattle.ldp_num.specs.StepList.{at_places}
use Rattle.ldp_centred.specs.Laws.{range_of, RangesKept, StepRangesKept}

-- the range of a result is the range that it was made with
ranged : (known : ℤ × ℤ → Option Known) (x : Option (ℤ × ℤ))
    → x ≡ option_map range_of (option_map (λ r. item (known r) r) x)
ranged known None = refl
ranged known (Some r) = refl

-- what an operation on items has as its range
abbrev RangedOne : (Item → Option Item) → (ℤ × ℤ → Option (ℤ × ℤ)) → Type 0
RangedOne f g = (a : Item) → g a.range ≡ option_map range_of (f a)

abbrev RangedTwo : (Item → Item → Option Item) → (ℤ × ℤ → ℤ × ℤ → Option (ℤ × ℤ)) → Type 0
RangedTwo f g = (a b : Item) → g a.range b.range ≡ option_map range_of (f a b)

one_ranged : (f : Item → Option Item) (g : ℤ × ℤ → Option (ℤ × ℤ)) → RangedOne f g
    → (x : Option Item)
    → option_and_then g (option_map range_of x) ≡ option_map range_of (option_and_then f x)
one_ranged f g same None = refl
one_ranged f g same (Some a) = same a

two_ranged : (f : Item → Item → Option Item) (g : ℤ × ℤ → ℤ × ℤ → Option (ℤ × ℤ)) → RangedTwo f g
    → (x y : Option Item)
    → option_and_then (λ p. option_and_then (g p) (option_map range_of y)) (option_map range_of x)
    ≡ option_map range_of (option_and_then (λ a. option_and_then (f a) y) x)
two_ranged f g same None y = refl
two_ranged f g same (Some a) None = refl
two_ranged f g same (Some a) (Some b) = same a b

at_one_ranged : (f : Item → Option Item) (g : ℤ × ℤ → Option (ℤ × ℤ)) → RangedOne f g
    → (done : List Item) (a : ℕ)
    → at_one g (map range_of done) a ≡ option_map range_of (at_one f done a)
at_one_ranged f g same done a =
    rw (slice_get-map range_of done a) (one_ranged f g same (slice_get done a))

at_two_ranged : (f : Item → Item → Option Item) (g : ℤ × ℤ → ℤ × ℤ → Option (ℤ × ℤ))
    → RangedTwo f g
    → (done : List Item) (a b : ℕ)
    → at_two g (map range_of done) a b ≡ option_map range_of (at_two f done a b)
at_two_ranged f g same done a b =
    rw (slice_get-map range_of done a, slice_get-map range_of done b)
    (two_ranged f g same (slice_get done a) (slice_get done b))

step_ranged : (inputs done : List Item) (step : Step)
    → step_value range_ops (map range_of inputs) (map range_of done) step
    ≡ option_map range_of (step_value slope_ops inputs done step)
step_ranged inputs done (Const v) = refl
step_ranged inputs done (Input i) = slice_get-map range_of inputs i
step_ranged inputs done (Add a b) =
    at_two_ranged slope_ops.add pair_add
    (λ x y. ranged (λ r. of_pair known_add x.known y.known) (pair_add x.range y.range)) done a b
step_ranged inputs done (Sub a b) =
    at_two_ranged slope_ops.sub pair_sub
    (λ x y. ranged (λ r. of_pair known_sub x.known y.known) (pair_sub x.range y.range)) done a b
step_ranged inputs done (Mul a b) =
    at_two_ranged slope_ops.mul pair_mul
    (λ x y. ranged (λ r. of_pair (known_mul x.range) x.known y.known)
    (pair_mul x.range y.range)) done a b
step_ranged inputs done (Div a b) =
    at_two_ranged slope_ops.div pair_div
    (λ x y. ranged (λ r. of_pair (known_div y.range) x.known y.known)
    (pair_div x.range y.range)) done a b
step_ranged inputs done (Sq a) =
    at_one_ranged slope_ops.sq pair_sq
    (λ x. ranged (λ r. option_and_then (known_sq x.range) x.known) (pair_sq x.range)) done a
step_ranged inputs done (Sqrt a) =
    at_one_ranged slope_ops.sqrt pair_sqrt
    (λ x. ranged (λ r. option_and_then (known_sqrt r) x.known) (pair_sqrt x.range)) done a
step_ranged inputs done (Need a) =
    at_one_ranged slope_ops.need pair_need
    (λ x. ranged (λ r. option_and_then known_need x.known) (pair_need x.range)) done a

-- one more result, and then the rest
after : (over_ranges : List (ℤ × ℤ) → Option (List (ℤ × ℤ)))
    (over_items : List Item → Option (List Item))
    (done : List Item) (v : Option Item)
    → ((ds : List Item) → over_ranges (map range_of ds) ≡ option_map (map range_of) (over_items ds))
    → option_and_then (λ x. over_ranges (map range_of done ++ x ∷ [])) (option_map range_of v)
    ≡ option_map (map range_of) (option_and_then (λ x. over_items (done ++ x ∷ [])) v)
after over_ranges over_items done None h = refl
after over_ranges over_items done (Some x) h =
    ap over_ranges (sym (map-append range_of done (x ∷ []))) ∙ h (done ++ x ∷ [])

results_from_ranged : (inputs done : List Item) (steps : List Step)
    → results_from range_ops (map range_of inputs) (map range_of done) steps
    ≡ option_map (map range_of) (results_from slope_ops inputs done steps)
results_from_ranged inputs done [] = refl
results_from_ranged inputs done (step ∷ steps) =
    rw (step_ranged inputs done step)
    (after (λ ds. results_from range_ops (map range_of inputs) ds steps)
    (λ ds. results_from slope_ops inputs ds steps) done
    (step_value slope_ops inputs done step) (λ ds. results_from_ranged inputs ds steps))

pub step-ranges-kept : StepRangesKept
step-ranges-kept steps inputs = results_from_ranged inputs [] steps

first_by : (x : Option Item) (xs : Option (List Item))
    → option_and_then (λ y. option_map (λ ys. y ∷ ys) (option_map (map range_of) xs))
    (option_map range_of x)
    ≡ option_map (map range_of) (option_and_then (λ y. option_map (λ ys. y ∷ ys) xs) x)
first_by None xs = refl
first_by (Some y) None = refl
first_by (Some y) (Some ys) = refl

-- the results at some places
places_ranged : (results : List Item) (places : List ℕ)
    → at_places (map range_of results) places
    ≡ option_map (map range_of) (at_places results places)
places_ranged results [] = refl
places_ranged results (place ∷ places) =
    rw (slice_get-map range_of results place, places_ranged results places)
    (first_by (slice_get results place) (at_places results places))

places_by : (places : List ℕ) (results : Option (List Item))
    → option_and_then (λ found. at_places found places) (option_map (map range_of) results)
    ≡ option_map (map range_of) (option_and_then (λ found. at_places found places) results)
places_by places None = refl
places_by places (Some found) = places_ranged found places

pub ranges-kept : RangesKept
ranges-kept list inputs =
    rw (step-ranges-kept list.steps inputs)
    (places_by list.outs (results_of slope_ops inputs list.steps))
