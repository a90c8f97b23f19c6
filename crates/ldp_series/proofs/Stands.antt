-- Values of a list that stand in a part of it.
use Rattle.std.proofs.Common.{◌≡◌, ℕ, zero, suc, ◌+◌, ◌<◌, List, [], ◌∷◌, ◌++◌, length}
use Rattle.std.proofs.Common.{take, set, arith, refl, sym, ap, subst, ◌∙◌, inl, inr}
use Rattle.std.proofs.lemmas.Option.{same_Some, none-some}
use Rattle.std.specs.Prelude.{◌⊎◌, Option, None, Some, slice_get}

-- the same value at a place of each
pub record Same {A : Type 0} (xs : List A) (i : ℕ) (ys : List A) (j : ℕ) : Type 0 where
  pub value : A
  pub here : slice_get xs i ≡ Some value
  pub there : slice_get ys j ≡ Some value

abbrev pub Stand : {A : Type 0} → List A → List (Option ℕ) → List A → Type 0
Stand values places part =
    (i j : ℕ) → slice_get places i ≡ Some (Some j) → Same values i part j

-- all places are below a number
abbrev pub Within : List (Option ℕ) → ℕ → Type 0
Within places n = (i j : ℕ) → slice_get places i ≡ Some (Some j) → j < n

pub get_front : {A : Type 0} (xs ys : List A) (i : ℕ) (x : A) → slice_get xs i ≡ Some x
    → slice_get (xs ++ ys) i ≡ Some x
get_front [] ys i x h = absurd (none-some x h)
get_front (y ∷ xs) ys zero x h = h
get_front (y ∷ xs) ys (suc i) x h = get_front xs ys i x h

pub get_left : {A : Type 0} (xs ys : List A) (i : ℕ) → i < length xs
    → slice_get (xs ++ ys) i ≡ slice_get xs i
get_left [] ys i h = absurd (omega arith)
get_left (x ∷ xs) ys zero h = refl
get_left (x ∷ xs) ys (suc i) h = get_left xs ys i (omega arith)

pub get_last : {A : Type 0} (xs : List A) (y : A) → slice_get (xs ++ y ∷ []) (length xs) ≡ Some y
get_last [] y = refl
get_last (x ∷ xs) y = get_last xs y

pub get_take : {A : Type 0} (n : ℕ) (xs : List A) (i : ℕ) → i < n
    → slice_get (take n xs) i ≡ slice_get xs i
get_take zero xs i h = absurd (omega arith)
get_take (suc n) [] i h = refl
get_take (suc n) (x ∷ xs) zero h = refl
get_take (suc n) (x ∷ xs) (suc i) h = get_take n xs i (omega arith)

pub pushed : {A : Type 0} (xs : List A) (y : A) (i : ℕ) (z : A)
    → slice_get (xs ++ y ∷ []) i ≡ Some z
    → (slice_get xs i ≡ Some z) ⊎ ((i ≡ length xs) × (y ≡ z))
pushed [] y zero z h = inr (refl, same_Some y z h)
pushed [] y (suc i) z h = absurd (none-some z h)
pushed (x ∷ xs) y zero z h = inl h
pushed (x ∷ xs) y (suc i) z h =
    elim (pushed xs y i z h) [ inl e ↦ inl e | inr e ↦ inr (ap suc e.0, e.1) ]

pub written_at : {A : Type 0} (xs : List A) (at : ℕ) (y : A) (i : ℕ) (z : A)
    → slice_get (set xs at y) i ≡ Some z
    → (slice_get xs i ≡ Some z) ⊎ ((i ≡ at) × (y ≡ z))
written_at [] at y i z h = inl h
written_at (x ∷ xs) zero y zero z h = inr (refl, same_Some y z h)
written_at (x ∷ xs) zero y (suc i) z h = inl h
written_at (x ∷ xs) (suc at) y zero z h = inl h
written_at (x ∷ xs) (suc at) y (suc i) z h =
    elim (written_at xs at y i z h) [ inl e ↦ inl e | inr e ↦ inr (ap suc e.0, e.1) ]

pub there : {A : Type 0} (xs : List A) (i : ℕ) → i < length xs → (x : A) × (slice_get xs i ≡ Some x)
there [] i h = absurd (omega arith)
there (x ∷ xs) zero h = (x, refl)
there (x ∷ xs) (suc i) h = there xs i (omega arith)

further : {A : Type 0} (xs ys more others : List A) (i j : ℕ) → Same xs i ys j
    → Same (xs ++ more) i (ys ++ others) j
further xs ys more others i j s = record {
  value = s.value;
  here = get_front xs more i s.value s.here;
  there = get_front ys others j s.value s.there;
}

pub stand_push : {A : Type 0} (values : List A) (places : List (Option ℕ)) (part : List A) (n : ℕ)
    (v : A)
    → Stand values places part → length places ≡ length values → n ≡ length part
    → Stand (values ++ v ∷ []) (places ++ Some n ∷ []) (part ++ v ∷ [])
stand_push values places part n v h count size i j e =
    elim (pushed places (Some n) i (Some j) e) [
      | inl k ↦ further values part (v ∷ []) (v ∷ []) i j (h i j k)
      | inr k ↦
          let at : length values ≡ i = sym count ∙ sym k.0 in
          let to : length part ≡ j = sym size ∙ same_Some n j k.1 in
          record {
            value = v;
            here = subst (λ (k : ℕ). slice_get (values ++ v ∷ []) k ≡ Some v) at
                (get_last values v);
            there = subst (λ (k : ℕ). slice_get (part ++ v ∷ []) k ≡ Some v) to
                (get_last part v);
          }
    ]

pub stand_skip : {A : Type 0} (values : List A) (places : List (Option ℕ)) (part : List A) (v : A)
    → Stand values places part → Stand (values ++ v ∷ []) (places ++ None ∷ []) part
stand_skip values places part v h i j e =
    elim (pushed places None i (Some j) e) [
      | inl k ↦
          let s = h i j k in
          record {
            value = s.value;
            here = get_front values (v ∷ []) i s.value s.here;
            there = s.there;
          }
      | inr k ↦ absurd (none-some j k.1)
    ]

pub stand_set : {A : Type 0} (values : List A) (places : List (Option ℕ)) (part : List A) (at n : ℕ)
    (v : A)
    → Stand values places part → slice_get values at ≡ Some v → n ≡ length part
    → Stand values (set places at (Some n)) (part ++ v ∷ [])
stand_set values places part at n v h is size i j e =
    elim (written_at places at (Some n) i (Some j) e) [
      | inl k ↦
          let s = h i j k in
          record {
            value = s.value;
            here = s.here;
            there = get_front part (v ∷ []) j s.value s.there;
          }
      | inr k ↦
          let to : length part ≡ j = sym size ∙ same_Some n j k.1 in
          record {
            value = v;
            here = ap (slice_get values) k.0 ∙ is;
            there = subst (λ (k : ℕ). slice_get (part ++ v ∷ []) k ≡ Some v) to
                (get_last part v);
          }
    ]

pub within_push : (places : List (Option ℕ)) (n : ℕ) → Within places n
    → Within (places ++ Some n ∷ []) (n + 1)
within_push places n h i j e =
    elim (pushed places (Some n) i (Some j) e) [
      | inl k ↦ let below : j < n = h i j k in omega arith
      | inr k ↦ let is : n ≡ j = same_Some n j k.1 in omega arith
    ]

pub within_skip : (places : List (Option ℕ)) (n : ℕ) → Within places n
    → Within (places ++ None ∷ []) n
within_skip places n h i j e =
    elim (pushed places None i (Some j) e) [
      | inl k ↦ h i j k
      | inr k ↦ absurd (none-some j k.1)
    ]

pub within_set : (places : List (Option ℕ)) (at n : ℕ) → Within places n
    → Within (set places at (Some n)) (n + 1)
within_set places at n h i j e =
    elim (written_at places at (Some n) i (Some j) e) [
      | inl k ↦ let below : j < n = h i j k in omega arith
      | inr k ↦ let is : n ≡ j = same_Some n j k.1 in omega arith
    ]
