-- The worst of a list, cell by cell.
use Rattle.std.proofs.Common.{◌≡◌, ℕ, suc, ◌+◌, map, ◌<◌, ◌≤◌, max, Bool, true, false, cond, length}
use Rattle.std.proofs.Common.{add-zero, add-one, drop-cons, drop, ℤ, pos, nat_abs, List, [], ◌∷◌}
use Rattle.std.proofs.Common.{arith, refl, sym, ap, ◌∙◌}
use Rattle.std.proofs.lemmas.Bool.Decides.{nat_tests}
use Rattle.std.proofs.lemmas.Bool.{lt-ltb}
use Rattle.std.specs.Prelude.{Option, Some, None, option_map, nat_lt, ◌==◌, position, slice_get}
use Rattle.std.specs.Prelude.{if◌then◌else◌}
use Rattle.std.proofs.lemmas.Option.{slice_get_within, get_or_from_slice_get}
use Rattle.std.proofs.lemmas.List.{drop_all}
use Rattle.std.specs.Option.{is_none}
use Rattle.std.specs.List.{position_or_len}
use Rattle.ldp_num.specs.StepList.{value}
use Rattle.ldp_distortion.specs.Inputs.{design_inputs}
use Rattle.ldp_distortion.specs.Distortion.{joined}
use Rattle.ldp_distortion.specs.Prepared.{PreparedCells, distortions_of}
use Rattle.ldp_distortion.specs.declared.inputs.Inputs.{Inputs}
use Rattle.ldp_distortion.proofs.Joints.{no_design}
use Rattle.ldp_problem.specs.Costs.{largest}
use Rattle.ldp_distortion.specs.Worst.{absolute_values, worst_at, worst_of}
use Rattle.ldp_distortion.specs.declared.worst.Worst.{Worst}
use Rattle.ldp_distortion.specs.declared.worst.Worst.TheVariants.{Is, Unusable}

-- the worst, from the value and the cell so far, over what is left from this place on
abbrev pub worst_from : ℕ → ℕ → ℕ → List (Option ℤ) → Worst
worst_from value cell place [] = Is (pos value) cell
worst_from value cell place (None ∷ more) = Unusable place
worst_from value cell place (Some d ∷ more) =
    if nat_lt value (nat_abs d) then worst_from (nat_abs d) place (place + 1) more
    else worst_from value cell (place + 1) more

-- the first place of the largest
abbrev first_largest : List ℕ → ℕ → ℕ
first_largest values most = position_or_len (λ one. one == most) values

-- the same at once: from the first undefined place, and the absolute values
abbrev at_once : ℕ → ℕ → ℕ → Option ℕ → List ℕ → Worst
at_once value cell place (Some at) values = Unusable (place + at)
at_once value cell place None values =
    Is (pos (max value (largest values)))
    (if nat_lt value (largest values) then place + first_largest values (largest values) else cell)

first_here : (n most : ℕ) (values : List ℕ) → n ≡ most → first_largest (n ∷ values) most ≡ 0
first_here n most values e =
    let same : (n == most) ≡ true = grind (arith, nat_tests) in
    rw same refl

first_later : (n most : ℕ) (values : List ℕ) → n < most
    → first_largest (n ∷ values) most ≡ suc (first_largest values most)
first_later n most values h =
    let other : (n == most) ≡ false = grind (arith, nat_tests) in
    let one : 1 + first_largest values most ≡ suc (first_largest values most) = omega arith in
    rw (other, one) refl

pub when_true : {A : Type 0} (b : Bool) (x y : A) → b ≡ true → (if b then x else y) ≡ x
when_true b x y h = rw h refl

pub when_false : {A : Type 0} (b : Bool) (x y : A) → b ≡ false → (if b then x else y) ≡ y
when_false b x y h = rw h refl

same_worst : (m n c d : ℕ) → m ≡ n → c ≡ d → Is (pos m) c ≡ Is (pos n) d
same_worst m n c d e h = ap (λ (k : ℕ). Is (pos k) c) e ∙ ap (Is (pos n)) h

later_place : (place n g : ℕ) (values : List ℕ) → n < g
    → place + 1 + first_largest values g ≡ place + first_largest (n ∷ values) (max n g)
later_place place n g values h =
    let most : g ≡ max n g = omega arith in
    let below : n < max n g = omega arith in
    let at : place + 1 + first_largest values g ≡ place + suc (first_largest values g) =
    omega arith in
    at ∙ ap (λ (m : ℕ). place + suc (first_largest values m)) most
    ∙ ap (λ (k : ℕ). place + k) (sym (first_later n (max n g) values below))

-- a value that is greater than the one so far
rises : (best cell place n g : ℕ) (values : List ℕ) (later : Bool) → nat_lt n g ≡ later → best < n
    → Is (pos (max n g)) (if nat_lt n g then place + 1 + first_largest values g else place)
    ≡ Is (pos (max best (max n g)))
    (if nat_lt best (max n g) then place + first_largest (n ∷ values) (max n g) else cell)
rises best cell place n g values true e h =
    let below : n < g = grind (arith, nat_tests) in
    let above : nat_lt best (max n g) ≡ true = lt-ltb best (max n g) (omega arith) in
    same_worst _ _ _ _ (omega arith)
    (when_true (nat_lt n g) _ _ e ∙ later_place place n g values below
    ∙ sym (when_true (nat_lt best (max n g)) _ _ above))
rises best cell place n g values false e h =
    let atmost : g ≤ n = grind (arith, nat_tests) in
    let above : nat_lt best (max n g) ≡ true = lt-ltb best (max n g) (omega arith) in
    let here : place + first_largest (n ∷ values) (max n g) ≡ place =
    ap (λ (k : ℕ). place + k) (first_here n (max n g) values (omega arith)) ∙ add-zero place in
    same_worst _ _ _ _ (omega arith)
    (when_false (nat_lt n g) _ _ e ∙ sym here ∙ sym (when_true (nat_lt best (max n g)) _ _ above))

-- a value that is not
stays : (best cell place n g : ℕ) (values : List ℕ) (later : Bool) → nat_lt best g ≡ later
    → n ≤ best
    → Is (pos (max best g)) (if nat_lt best g then place + 1 + first_largest values g else cell)
    ≡ Is (pos (max best (max n g)))
    (if nat_lt best (max n g) then place + first_largest (n ∷ values) (max n g) else cell)
stays best cell place n g values true e h =
    let over : best < g = grind (arith, nat_tests) in
    let below : n < g = omega arith in
    let above : nat_lt best (max n g) ≡ true = lt-ltb best (max n g) (omega arith) in
    same_worst _ _ _ _ (omega arith)
    (when_true (nat_lt best g) _ _ e ∙ later_place place n g values below
    ∙ sym (when_true (nat_lt best (max n g)) _ _ above))
stays best cell place n g values false e h =
    let atmost : g ≤ best = grind (arith, nat_tests) in
    let most : max n g ≤ best = omega arith in
    let test : nat_lt best (max n g) ≡ false = grind (arith, nat_tests) in
    same_worst _ _ _ _ (omega arith)
    (when_false (nat_lt best g) _ _ e ∙ sym (when_false (nat_lt best (max n g)) _ _ test))

-- one more at the front
next_by : (value cell place n : ℕ) (at : Option ℕ) (values : List ℕ) (greater : Bool)
    → nat_lt value n ≡ greater
    → (if greater then at_once n place (place + 1) at values
    else at_once value cell (place + 1) at values)
    ≡ at_once value cell place (option_map suc at) (n ∷ values)
next_by value cell place n (Some at) values true e = ap Unusable (omega arith)
next_by value cell place n (Some at) values false e = ap Unusable (omega arith)
next_by value cell place n None values true e =
    rises value cell place n (largest values) values (nat_lt n (largest values)) refl
    (grind (arith, nat_tests))
next_by value cell place n None values false e =
    stays value cell place n (largest values) values (nat_lt value (largest values)) refl
    (grind (arith, nat_tests))

place_by : (k l : ℕ) (within : Bool) → nat_lt k l ≡ within
    → cond (nat_lt (1 + k) (suc l)) (Some (1 + k)) None
    ≡ option_map suc (cond (nat_lt k l) (Some k) None)
place_by k l true e =
    let test : nat_lt (1 + k) (suc l) ≡ true = grind (arith, nat_tests) in
    let one : 1 + k ≡ suc k = omega arith in
    rw (test, e) (ap Some one)
place_by k l false e =
    let test : nat_lt (1 + k) (suc l) ≡ false = grind (arith, nat_tests) in
    rw (test, e) refl

first_undefined : (d : ℤ) (more : List (Option ℤ))
    → position is_none (Some d ∷ more) ≡ option_map suc (position is_none more)
first_undefined d more =
    place_by (position_or_len is_none more) (length more)
    (nat_lt (position_or_len is_none more) (length more)) refl

first_here_undefined : (more : List (Option ℤ)) → position is_none (None ∷ more) ≡ Some 0
first_here_undefined more =
    let test : nat_lt 0 (suc (length more)) ≡ true = lt-ltb 0 (suc (length more)) (omega arith) in
    rw test refl

-- the worst cell by cell is the worst at once
all_at_once : (value cell place : ℕ) (ds : List (Option ℤ))
    → worst_from value cell place ds ≡ at_once value cell place (position is_none ds)
    (absolute_values ds)
all_at_once value cell place [] =
    let over : max value 0 ≡ value = omega arith in
    let test : nat_lt value 0 ≡ false = grind (arith, nat_tests) in
    rw (over, test) refl
all_at_once value cell place (None ∷ more) =
    let at : place ≡ place + 0 = omega arith in
    ap Unusable at
    ∙ ap (λ (o : Option ℕ). at_once value cell place o (absolute_values (None ∷ more)))
    (sym (first_here_undefined more))
all_at_once value cell place (Some d ∷ more) =
    rw (
      first_undefined d more,
      all_at_once (nat_abs d) place (place + 1) more,
      all_at_once value cell (place + 1) more,
    )
    (next_by value cell place (nat_abs d) (position is_none more) (absolute_values more)
    (nat_lt value (nat_abs d)) refl)

zero_first : (values : List ℕ) → largest values ≡ 0 → first_largest values 0 ≡ 0
zero_first [] h = refl
zero_first (n ∷ values) h = first_here n 0 values (omega arith)

begins_by : (at : Option ℕ) (values : List ℕ) (some : Bool) → nat_lt 0 (largest values) ≡ some
    → at_once 0 0 0 at values ≡ worst_at at values
begins_by (Some at) values some e = ap Unusable (omega arith)
begins_by None values true e =
    let most : max 0 (largest values) ≡ largest values = omega arith in
    let at : 0 + first_largest values (largest values) ≡ first_largest values (largest values) =
    omega arith in
    rw (most, e, at) refl
begins_by None values false e =
    let none : largest values ≡ 0 = grind (arith, nat_tests) in
    rw (none, zero_first values none) refl

pub worst_from-is : (ds : List (Option ℤ)) → worst_from 0 0 0 ds ≡ worst_of ds
unfolding worst_of
worst_from-is ds =
    all_at_once 0 0 0 ds ∙ begins_by (position is_none ds) (absolute_values ds)
    (nat_lt 0 (largest (absolute_values ds))) refl

-- the first of the distortions from a place on
first_left : (ds : List (Option ℤ)) (at : ℕ) (d : Option ℤ) → slice_get ds at ≡ Some d
    → drop at ds ≡ d ∷ drop (at + 1) ds
first_left ds at d h =
    let within : at < length ds = slice_get_within ds at d h in
    rw (add-one at, drop-cons ds at d within, get_or_from_slice_get ds at d d h) refl

pub left_undefined : (ds : List (Option ℤ)) (value cell at : ℕ) → slice_get ds at ≡ Some None
    → worst_from value cell at (drop at ds) ≡ Unusable at
left_undefined ds value cell at h = rw (first_left ds at None h) refl

pub left_defined : (ds : List (Option ℤ)) (value cell at : ℕ) (d : ℤ)
    → slice_get ds at ≡ Some (Some d)
    → worst_from value cell at (drop at ds)
    ≡ (if nat_lt value (nat_abs d) then worst_from (nat_abs d) at (at + 1) (drop (at + 1) ds)
    else worst_from value cell (at + 1) (drop (at + 1) ds))
left_defined ds value cell at d h = rw (first_left ds at (Some d) h) refl

pub none_left : (ds : List (Option ℤ)) (value cell at : ℕ) → length ds ≤ at
    → worst_from value cell at (drop at ds) ≡ Is (pos value) cell
none_left ds value cell at h = rw (drop_all at ds h) refl

-- where the first cell is undefined
first_is_undefined : (more : List (Option ℤ)) → Unusable 0 ≡ worst_of (None ∷ more)
unfolding worst_of
first_is_undefined more = rw (first_here_undefined more) refl

-- where the design list gave nothing, and there is a cell
pub no_design_worst : (p : PreparedCells) (at : Inputs) → value p.lists.design (design_inputs at)
    ≡ None → 0 < length p.results
    → Unusable 0 ≡ worst_of (distortions_of p at)
no_design_worst p at h some = of_results p.results refl where
  of_results : (results : List (Option (List ℤ))) → p.results ≡ results
      → Unusable 0 ≡ worst_of (distortions_of p at)
  of_results [] e = absurd (omega (arith, ap length e))
  of_results (of_cell ∷ more) e = first_is_undefined (map (joined p.lists None) more)
      ∙ ap worst_of (sym (no_design p at of_cell more h e))
