-- What a list has, and the lists that are made of others.
use Rattle.std.proofs.Common.{◌≡◌, ◌≤◌, ◌<◌, ◌+◌, ℕ, zero, suc, List, [], ◌∷◌, ◌++◌, Option, None}
use Rattle.std.proofs.Common.{Some, refl, sym, ap, subst, ◌∙◌, ◌⊎◌, inl, inr, arith, length}
use Rattle.std.proofs.Common.{get_or}
use Rattle.std.proofs.lemmas.Bool.{cases_lt}
use Rattle.std.specs.Prelude.{map, flat_map, filter_map, slice_get, Contains}
use Rattle.std.specs.List.{range_with_len, enumerate_from, cons_option}

abbrev pub Member : {A : Type 0} → A → List A → Type 0
Member x [] = ⊥
Member x (y ∷ ys) = (y ≡ x) ⊎ Member x ys

pub in_left : {A : Type 0} (x : A) (xs ys : List A) → Member x xs → Member x (xs ++ ys)
in_left x [] ys m = absurd m
in_left x (y ∷ xs) ys (inl e) = inl e
in_left x (y ∷ xs) ys (inr m) = inr (in_left x xs ys m)

pub in_right : {A : Type 0} (x : A) (xs ys : List A) → Member x ys → Member x (xs ++ ys)
in_right x [] ys m = m
in_right x (y ∷ xs) ys m = inr (in_right x xs ys m)

further : {A : Type 0} (x y : A) (xs ys : List A) → Member x xs ⊎ Member x ys
    → Member x (y ∷ xs) ⊎ Member x ys
further x y xs ys (inl l) = inl (inr l)
further x y xs ys (inr r) = inr r

pub in_either : {A : Type 0} (x : A) (xs ys : List A) → Member x (xs ++ ys)
    → Member x xs ⊎ Member x ys
in_either x [] ys m = inr m
in_either x (y ∷ xs) ys (inl e) = inl (inl e)
in_either x (y ∷ xs) ys (inr m) = further x y xs ys (in_either x xs ys m)

pub mapped : {A B : Type 0} (f : A → B) (x : A) (xs : List A) → Member x xs
    → Member (f x) (map f xs)
mapped f x [] m = absurd m
mapped f x (y ∷ xs) (inl e) = inl (ap f e)
mapped f x (y ∷ xs) (inr m) = inr (mapped f x xs m)

-- whence an element of such a list comes
pub record ComesFrom {A B : Type 0} (f : A → B → Type 0) (xs : List A) (y : B) : Type 0 where
  pub source : A
  pub has : Member source xs
  pub gives : f source y

from_later : {A B : Type 0} (f : A → B → Type 0) (x : A) (xs : List A) (y : B) → ComesFrom f xs y
    → ComesFrom f (x ∷ xs) y
from_later f x xs y c = record { source = c.source; has = inr c.has; gives = c.gives }

pub of_map : {A B : Type 0} (f : A → B) (y : B) (xs : List A) → Member y (map f xs)
    → ComesFrom (λ x z. f x ≡ z) xs y
of_map f y [] m = absurd m
of_map f y (x ∷ xs) (inl e) = record { source = x; has = inl refl; gives = e }
of_map f y (x ∷ xs) (inr m) = from_later (λ u z. f u ≡ z) x xs y (of_map f y xs m)

pub flat_mapped : {A B : Type 0} (f : A → List B) (x : A) (y : B) (xs : List A) → Member x xs
    → Member y (f x) → Member y (flat_map f xs)
flat_mapped f x y [] m n = absurd m
flat_mapped f x y (z ∷ xs) (inl e) n =
    in_left y (f z) (flat_map f xs) (subst (λ u. Member y (f u)) (sym e) n)
flat_mapped f x y (z ∷ xs) (inr m) n = in_right y (f z) (flat_map f xs) (flat_mapped f x y xs m n)

of_first : {A B : Type 0} (f : A → List B) (y : B) (x : A) (xs : List A)
    → (Member y (flat_map f xs) → ComesFrom (λ u z. Member z (f u)) xs y)
    → Member y (f x) ⊎ Member y (flat_map f xs) → ComesFrom (λ u z. Member z (f u)) (x ∷ xs) y
of_first f y x xs later (inl l) = record { source = x; has = inl refl; gives = l }
of_first f y x xs later (inr r) = from_later (λ u z. Member z (f u)) x xs y (later r)

pub of_flat_map : {A B : Type 0} (f : A → List B) (y : B) (xs : List A) → Member y (flat_map f xs)
    → ComesFrom (λ x z. Member z (f x)) xs y
of_flat_map f y [] m = absurd m
of_flat_map f y (x ∷ xs) m =
    of_first f y x xs (of_flat_map f y xs) (in_either y (f x) (flat_map f xs) m)

kept_past : {B : Type 0} (y : B) (ys : List B) (o : Option B) → Member y ys
    → Member y (cons_option o ys)
kept_past y ys None m = m
kept_past y ys (Some z) m = inr m

pub kept : {A B : Type 0} (f : A → Option B) (x : A) (y : B) (xs : List A) → Member x xs
    → f x ≡ Some y → Member y (filter_map f xs)
kept f x y [] m e = absurd m
kept f x y (z ∷ xs) (inl h) e =
    subst (λ o. Member y (cons_option o (filter_map f xs))) (sym (ap f h ∙ e)) (inl refl)
kept f x y (z ∷ xs) (inr m) e = kept_past y (filter_map f xs) (f z) (kept f x y xs m e)

of_kept : {A B : Type 0} (f : A → Option B) (y : B) (x : A) (xs : List A) (o : Option B) → f x ≡ o
    → (Member y (filter_map f xs) → ComesFrom (λ u z. f u ≡ Some z) xs y)
    → Member y (cons_option o (filter_map f xs)) → ComesFrom (λ u z. f u ≡ Some z) (x ∷ xs) y
of_kept f y x xs None e later m = from_later (λ u z. f u ≡ Some z) x xs y (later m)
of_kept f y x xs (Some u) e later (inl h) =
    record { source = x; has = inl refl; gives = e ∙ ap Some h }
of_kept f y x xs (Some u) e later (inr m) = from_later (λ v z. f v ≡ Some z) x xs y (later m)

pub of_filter_map : {A B : Type 0} (f : A → Option B) (y : B) (xs : List A)
    → Member y (filter_map f xs) → ComesFrom (λ x z. f x ≡ Some z) xs y
of_filter_map f y [] m = absurd m
of_filter_map f y (x ∷ xs) m = of_kept f y x xs (f x) refl (of_filter_map f y xs) m

first_or_later : (i j : ℕ) → i ≤ j → (i ≡ j) ⊎ (i + 1 ≤ j)
first_or_later i j h = by_order (cases_lt i j)
  where
    by_order : (i < j) ⊎ (j ≤ i) → (i ≡ j) ⊎ (i + 1 ≤ j)
    by_order (inl l) = inr (omega arith)
    by_order (inr g) = inl (omega arith)

pub ranged : (a n k : ℕ) → a ≤ k → k < a + n → Member k (range_with_len a n)
ranged a zero k h l = absurd (omega arith)
ranged a (suc n) k h l =
    by_place (first_or_later a k h) (λ later. ranged (a + 1) n k later (omega arith))
  where
    by_place : (a ≡ k) ⊎ (a + 1 ≤ k) → (a + 1 ≤ k → Member k (range_with_len (a + 1) n))
        → Member k (range_with_len a (suc n))
    by_place (inl e) later = inl e
    by_place (inr h) later = inr (later h)

pub of_range : (a n k : ℕ) → Member k (range_with_len a n) → (a ≤ k) × (k < a + n)
of_range a zero k m = absurd m
of_range a (suc n) k (inl e) = (omega arith, omega arith)
of_range a (suc n) k (inr m) =
    let later = of_range (a + 1) n k m in (omega (arith, later.0), omega (arith, later.1))

pub numbered : {A : Type 0} (n i : ℕ) (x : A) (xs : List A) → slice_get xs i ≡ Some x
    → Member (n + i, x) (enumerate_from n xs)
numbered n i x [] e = absurd cc
numbered n zero x (y ∷ xs) e =
    let number : n ≡ n + 0 = omega arith in
    let item : y ≡ x = cc in
    inl (ap (λ k. (k, y)) number ∙ ap (λ z. (n + 0, z)) item)
numbered n (suc i) x (y ∷ xs) e =
    let number : n + 1 + i ≡ n + suc i = omega arith in
    inr (subst (λ k. Member (k, x) (enumerate_from (n + 1) xs)) number (numbered (n + 1) i x xs e))

-- the place of an element with its number
pub record StandsAt {A : Type 0} (n : ℕ) (q : ℕ × A) (xs : List A) : Type 0 where
  pub place : ℕ
  pub number : q.0 ≡ n + place
  pub stands : slice_get xs place ≡ Some q.1

pub of_enumerate : {A : Type 0} (n : ℕ) (q : ℕ × A) (xs : List A) → Member q (enumerate_from n xs)
    → StandsAt n q xs
of_enumerate n q [] m = absurd m
of_enumerate n q (y ∷ xs) (inl e) = record {
  place = 0;
  number = ap (λ z. z.0) (sym e) ∙ omega arith;
  stands = ap (λ z. Some z.1) e;
}
of_enumerate n q (y ∷ xs) (inr m) =
    let later = of_enumerate (n + 1) q xs m in
    record { place = suc later.place; number = later.number ∙ omega arith; stands = later.stands }

-- as std has it
pub contained : {A : Type 0} (x : A) (xs : List A) → Member x xs → Contains xs x
contained x [] m = absurd m
contained x (y ∷ xs) (inl e) = (0, omega arith, e)
contained x (y ∷ xs) (inr m) =
    let later = contained x xs m in (suc later.0, omega (arith, later.1), later.2)

pub of_contained : {A : Type 0} (x : A) (xs : List A) → Contains xs x → Member x xs
of_contained x xs c = stands x xs c.0 c.1 c.2
  where
    stands : {B : Type 0} (z : B) (zs : List B) (k : ℕ) → k < length zs → get_or zs k z ≡ z
        → Member z zs
    stands z [] k h e = absurd (omega arith)
    stands z (y ∷ zs) zero h e = inl e
    stands z (y ∷ zs) (suc k) h e = inr (stands z zs k (omega arith) e)
