-- The distortion in two carriers: where a map of values keeps the value of each list, and where the
-- values of each list are related.
use Rattle.std.proofs.Common.{◌≡◌, ℕ, ℤ, List, [], ◌∷◌, ◌++◌, map, refl, sym, ap, ◌∙◌, subst}
use Rattle.std.proofs.lemmas.List.{map-append}
use Rattle.std.proofs.lemmas.Option.{slice_get-map, option_and_then_some, same_Some}
use Rattle.std.specs.Prelude.{Option, Some, None, option_map, option_and_then, slice_get}
use Rattle.ldp_num.specs.Written.{Ops, written, number_ops, range_ops, plain_out, pair_out}
use Rattle.ldp_num.specs.StepList.{StepList, value_in, first_result}
use Rattle.ldp_num.proofs.Listed.{plain_value, pair_value}
use Rattle.ldp_series.specs.declared.list.Lists.{Lists}
use Rattle.ldp_range.specs.Range.{twice}
use Rattle.ldp_range.specs.Related.{Pairwise, Reaches, ValuesFollow}
use Rattle.ldp_range.proofs.Sharpness.{sharpness}
use Rattle.ldp_distortion.specs.Distortion.{joined_in, distortion_in}
use Rattle.ldp_distortion.specs.Prepared.{PreparedCells, joined_at}

-- m takes the value of each list over f to that over g
pub record Maps {A B : Type 0} (m : A → B) (f : Ops A) (g : Ops B) : Type 0 where
  pub value : (list : StepList) (inputs : List A)
      → value_in g list (map m inputs) ≡ option_map (map m) (value_in f list inputs)
  pub constant : (v : ℤ) → m (f.constant v) ≡ g.constant v

constants_mapped : {A B : Type 0} (m : A → B) (f : Ops A) (g : Ops B) → Maps m f g → (cell : List ℤ)
    → map m (map f.constant cell) ≡ map g.constant cell
constants_mapped m f g maps [] = refl
constants_mapped m f g maps (v ∷ cell) =
    rw (maps.constant v, constants_mapped m f g maps cell) refl

first_mapped : {A B : Type 0} (m : A → B) (found : Option (List A))
    → first_result (option_map (map m) found) ≡ option_map m (first_result found)
first_mapped m None = refl
first_mapped m (Some results) = slice_get-map m results 0

pub joined_mapped : {A B : Type 0} (m : A → B) (f : Ops A) (g : Ops B) → Maps m f g
    → (lists : Lists) (of_design : Option (List A)) (of_cell : Option (List ℤ))
    → joined_in g lists (option_map (map m) of_design) of_cell
    ≡ option_map m (joined_in f lists of_design of_cell)
unfolding joined_in
joined_mapped m f g maps lists None of_cell = refl
joined_mapped m f g maps lists (Some design) None = refl
joined_mapped {A = A} {B = B} m f g maps lists (Some design) (Some cell) =
    let inputs : map m design ++ map g.constant cell ≡ map m (design ++ map f.constant cell) =
    ap (λ (xs : List B). map m design ++ xs) (sym (constants_mapped m f g maps cell))
    ∙ sym (map-append m design (map f.constant cell)) in
    ap (λ (xs : List B). first_result (value_in g lists.joint xs)) inputs
    ∙ ap first_result (maps.value lists.joint (design ++ map f.constant cell))
    ∙ first_mapped m (value_in f lists.joint (design ++ map f.constant cell))

pub distortion_mapped : {A B : Type 0} (m : A → B) (f : Ops A) (g : Ops B) → Maps m f g
    → (lists : Lists) (inputs : List A) (of_cell : Option (List ℤ))
    → distortion_in g lists (map m inputs) of_cell
    ≡ option_map m (distortion_in f lists inputs of_cell)
unfolding distortion_in
distortion_mapped m f g maps lists inputs of_cell =
    ap (λ found. joined_in g lists found of_cell) (maps.value lists.design inputs)
    ∙ joined_mapped m f g maps lists (value_in f lists.design inputs) of_cell

-- at one of the prepared cells
pub at_mapped : {A B : Type 0} (m : A → B) (f : Ops A) (g : Ops B) → Maps m f g
    → (p : PreparedCells) (of_design : List A) (cell : ℕ)
    → joined_at g p (map m of_design) cell ≡ option_map m (joined_at f p of_design cell)
at_mapped m f g maps p of_design cell = by_row (slice_get p.results cell)
  where
    by_row : (row : Option (Option (List ℤ)))
        → option_and_then (joined_in g p.lists (Some (map m of_design))) row
        ≡ option_map m (option_and_then (joined_in f p.lists (Some of_design)) row)
    by_row None = refl
    by_row (Some of_cell) = joined_mapped m f g maps p.lists (Some of_design) of_cell

-- numbers and pairs as the lists that the carriers mean, and a number as the pair of equal ends
pub plain_maps : Maps plain_out number_ops (written 0)
plain_maps = record { value = plain_value; constant = λ v. refl }

pub pair_maps : Maps pair_out range_ops (written 1)
pair_maps = record { value = pair_value; constant = λ v. refl }

pub twice_maps : Maps twice number_ops range_ops
twice_maps = record { value = sharpness; constant = λ v. refl }

-- lists of values that are related place by place
appended : {A B : Type 0} (R : A → B → Type 0) (xs us : List A) (ys vs : List B) → Pairwise R xs ys
    → Pairwise R us vs
    → Pairwise R (xs ++ us) (ys ++ vs)
appended R [] us [] vs front back = back
appended R [] us (y ∷ ys) vs front back = absurd front
appended R (x ∷ xs) us [] vs front back = absurd front
appended R (x ∷ xs) us (y ∷ ys) vs front back = (front.0, appended R xs us ys vs front.1 back)

constants_related : {A B : Type 0} (R : A → B → Type 0) (f : Ops A) (g : Ops B)
    → ((v : ℤ) → R (f.constant v) (g.constant v))
    → (cell : List ℤ) → Pairwise R (map f.constant cell) (map g.constant cell)
constants_related R f g constants [] = tt
constants_related R f g constants (v ∷ cell) = (constants v, constants_related R f g constants cell)

first_related : {A B : Type 0} (R : A → B → Type 0) (xs : List A) (ys : List B) (t : B)
    → Pairwise R xs ys
    → slice_get ys 0 ≡ Some t → Reaches R (slice_get xs 0) t
first_related R [] [] t both e = cc
first_related R [] (y ∷ ys) t both e = absurd both
first_related R (x ∷ xs) [] t both e = absurd both
first_related R (x ∷ xs) (y ∷ ys) t both e =
    record { value = x; is = refl; related = subst (R x) (same_Some y t e) both.0 }

-- where the values of f follow those of g, so does the distortion: over f it is defined wherever it
-- is over g, and related
pub distortion_follows : {A B : Type 0} (R : A → B → Type 0) (f : Ops A) (g : Ops B)
    → ValuesFollow R f g
    → ((v : ℤ) → R (f.constant v) (g.constant v))
    → (lists : Lists) (of_cell : Option (List ℤ)) (left : List A) (right : List B) (t : B)
    → Pairwise R left right → distortion_in g lists right of_cell ≡ Some t
    → Reaches R (distortion_in f lists left of_cell) t
unfolding distortion_in joined_in
distortion_follows R f g follows constants lists of_cell left right t near e =
    option_and_then_some _ (value_in g lists.design right) t e (λ design is later.
    option_and_then_some _ of_cell t later (λ cell here last.
    option_and_then_some _ (value_in g lists.joint (design ++ map g.constant cell)) t last
    (λ found value first.
    let front = follows lists.design left right design near is in
    let both = appended R front.value (map f.constant cell) design
    (map g.constant cell) front.related
    (constants_related R f g constants cell) in
    let joint = follows lists.joint (front.value ++ map f.constant cell)
    (design ++ map g.constant cell) found both value in
    rw (front.is, here, joint.is) (first_related R joint.value found t joint.related first))))
