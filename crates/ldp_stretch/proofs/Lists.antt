-- Elements of a list at their places, and lists that are related place by place.
use Rattle.std.proofs.Common.{◌≡◌, ◌<◌, ◌+◌, ℕ, zero, suc, List, [], ◌∷◌, ◌++◌, length, take, drop}
use Rattle.std.proofs.Common.{map, set, get_or, arith, refl, sym, ap, subst, ◌∙◌}
use Rattle.std.proofs.lemmas.List.{take_more_set, map_more}
use Rattle.std.proofs.lemmas.Option.{same_Some}
use Rattle.std.specs.Prelude.{Some, slice_get}
use Rattle.ldp_range.specs.Related.{Pairwise, Reaches}

-- elements in front stay where more come behind, and the first of these is the next
pub get_front : {A : Type 0} (xs more : List A) (i : ℕ) → i < length xs
    → slice_get (xs ++ more) i ≡ slice_get xs i
get_front [] more i h = absurd (omega arith)
get_front (x ∷ xs) more zero h = refl
get_front (x ∷ xs) more (suc i) h = get_front xs more i (omega arith)

pub get_last : {A : Type 0} (xs : List A) (x : A) → slice_get (xs ++ x ∷ []) (length xs) ≡ Some x
get_last [] x = refl
get_last (y ∷ xs) x = get_last xs x

-- an element of a part of a list
pub get_take : {A : Type 0} (n : ℕ) (xs : List A) (i : ℕ) (x : A) → slice_get (take n xs) i ≡ Some x
    → slice_get xs i ≡ Some x
get_take zero xs i x e = cc
get_take (suc n) [] i x e = e
get_take (suc n) (y ∷ xs) zero x e = e
get_take (suc n) (y ∷ xs) (suc i) x e = get_take n xs i x e

pub get_drop : {A : Type 0} (n : ℕ) (xs : List A) (i : ℕ)
    → slice_get (drop n xs) i ≡ slice_get xs (n + i)
get_drop zero xs i = let e : 0 + i ≡ i = omega arith in rw e refl
get_drop (suc n) [] i = refl
get_drop (suc n) (y ∷ xs) i =
    let e : suc n + i ≡ suc (n + i) = omega arith in
    rw e (get_drop n xs i)

-- what is related at each place is related place by place
pub pairwise_at : {A B : Type 0} (R : A → B → Type 0) (xs : List A) (ys : List B)
    → length xs ≡ length ys
    → ((i : ℕ) (x : A) (y : B) → slice_get xs i ≡ Some x → slice_get ys i ≡ Some y → R x y)
    → Pairwise R xs ys
pairwise_at R [] [] h each = tt
pairwise_at R [] (y ∷ ys) h each = absurd (omega arith)
pairwise_at R (x ∷ xs) [] h each = absurd (omega arith)
pairwise_at R (x ∷ xs) (y ∷ ys) h each =
    (each 0 x y refl refl, pairwise_at R xs ys (omega arith) (λ i x y e f. each (suc i) x y e f))

-- after one more place
pub pairwise_more : {A B : Type 0} (R : A → B → Type 0) (xs : List A) (ys : List B) (i : ℕ) (x : A)
    (y : B) → slice_get xs i ≡ Some x → i < length ys
    → R x y → Pairwise R (take i xs) (take i ys)
    → Pairwise R (take (suc i) xs) (take (suc i) (set ys i y))
pairwise_more R [] ys i x y e h r so_far = cc
pairwise_more R (a ∷ xs) [] i x y e h r so_far = absurd (omega arith)
pairwise_more R (a ∷ xs) (b ∷ ys) zero x y e h r so_far =
    (subst (λ n. R n y) (sym (same_Some a x e)) r, tt)
pairwise_more R (a ∷ xs) (b ∷ ys) (suc i) x y e h r so_far =
    (so_far.0, pairwise_more R xs ys i x y e (omega arith) r so_far.1)

pub pairwise_next : {A B : Type 0} (R : A → B → Type 0) (xs : List A) (ys : List B) (i : ℕ) (x : A)
    (y : B) → slice_get xs i ≡ Some x → i < length ys
    → R x y → Pairwise R (take i xs) (take i ys)
    → Pairwise R (take (i + 1) xs) (take (i + 1) (set ys i y))
pairwise_next R xs ys i x y e h r so_far =
    let next : suc i ≡ i + 1 = omega arith in
    subst (λ n. Pairwise R (take n xs) (take n (set ys i y))) next
    (pairwise_more R xs ys i x y e h r so_far)

-- one more value of a function
pub mapped_next : {A B : Type 0} (f : A → B) (xs : List A) (ys : List B) (i : ℕ) (x : A) (y : B)
    → x ≡ get_or xs i x → i < length xs → i < length ys → y ≡ f x
    → take i ys ≡ map f (take i xs) → take (i + 1) (set ys i y) ≡ map f (take (i + 1) xs)
mapped_next f xs ys i x y read inside room value so_far =
    take_more_set ys i y room
    ∙ ap (λ front. front ++ y ∷ []) so_far
    ∙ ap (λ last. map f (take i xs) ++ last ∷ []) (value ∙ ap f read)
    ∙ sym (map_more f xs i x inside)

pub pairwise_appended : {A B : Type 0} (R : A → B → Type 0) (xs us : List A) (ys vs : List B)
    → Pairwise R xs ys → Pairwise R us vs → Pairwise R (xs ++ us) (ys ++ vs)
pairwise_appended R [] us [] vs front back = back
pairwise_appended R [] us (y ∷ ys) vs front back = absurd front
pairwise_appended R (x ∷ xs) us [] vs front back = absurd front
pairwise_appended R (x ∷ xs) us (y ∷ ys) vs front back =
    (front.0, pairwise_appended R xs us ys vs front.1 back)

pub first_related : {A B : Type 0} (R : A → B → Type 0) (xs : List A) (ys : List B) (t : B)
    → Pairwise R xs ys → slice_get ys 0 ≡ Some t → Reaches R (slice_get xs 0) t
first_related R [] [] t both e = cc
first_related R [] (y ∷ ys) t both e = absurd both
first_related R (x ∷ xs) [] t both e = absurd both
first_related R (x ∷ xs) (y ∷ ys) t both e =
    record { value = x; is = refl; related = subst (R x) (same_Some y t e) both.0 }
