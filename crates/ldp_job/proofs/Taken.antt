-- Words that are taken from a line: what is read is what is written, and what is written is read.
use Rattle.std.proofs.Common.{◌≡◌, ℕ, ◌≤◌, Bool, true, false, List, [], ◌∷◌, decimal, Option, Some}
use Rattle.std.proofs.Common.{None, refl, ap, ◌∙◌, ◌⊎◌, inl, inr, if◌then◌else◌}
use Rattle.std.specs.Prelude.{bytes_eq}
use Rattle.std.proofs.lemmas.Slice.Eq.{bytes_eq-Decides}
use Rattle.ldp_num.specs.Number.{limit}
use Rattle.ldp_spelling.specs.Numbers.{whole_in}
use Rattle.ldp_spelling.proofs.Written.{whole_found, whole_again}
use Rattle.ldp_job.specs.Words.{◌>>=◌, taken, word_in, number_in, name_in, last_in, lone_in}
use Rattle.ldp_job.specs.Words.{named_in}

-- the words are what is written for a value of the range
pub record IsRead {A : Type 0} (write : A → List (List ℕ)) (Valid : A → Type 0) (ws : List (List ℕ))
    (a : A) : Type 0 where
  pub valid : Valid a
  pub same : ws ≡ write a

pub bind_some : {A B : Type 0} (o : Option A) (f : A → Option B) (y : B) → (o >>= f) ≡ Some y
    → (x : A) × (o ≡ Some x) × (f x ≡ Some y)
bind_some None f y e = absurd cc
bind_some (Some x) f y e = (x, refl, e)

pub if_is : {A : Type 0} (t : Bool) (x y : A) → (if t then Some x else None) ≡ Some y
    → (t ≡ true) × (x ≡ y)
if_is true x y e = (refl, cc)
if_is false x y e = absurd cc

pub same_word : (a b : List ℕ) → bytes_eq a b ≡ true → a ≡ b
same_word a b e = (bytes_eq-Decides a b).0 e

pub same_yes : (a : List ℕ) → bytes_eq a a ≡ true
same_yes a = (bytes_eq-Decides a a).1 refl

pub and_then : {A : Type 0} {xs ys zs : List A} {x : A} → xs ≡ x ∷ ys → ys ≡ zs → xs ≡ x ∷ zs
and_then {x = x} e f = e ∙ ap (λ l. x ∷ l) f

name_found : (name : List ℕ) (ws rest : List (List ℕ)) → name_in name ws ≡ Some rest
    → ws ≡ name ∷ rest
name_found name [] rest e = absurd cc
name_found name (w ∷ ws) rest e = let yes = if_is (bytes_eq w name) ws rest e in
    ap (λ x. x ∷ ws) (same_word w name yes.0) ∙ ap (λ l. name ∷ l) yes.1

-- a name, and what follows it
pub name_step : {B : Type 0} (name : List ℕ) (ws : List (List ℕ)) (f : List (List ℕ) → Option B)
    (y : B) → (name_in name ws >>= f) ≡ Some y
    → (rest : List (List ℕ)) × (ws ≡ name ∷ rest) × (f rest ≡ Some y)
name_step name ws f y e = let step = bind_some (name_in name ws) f y e in
    (step.0, name_found name ws step.0 step.1, step.2)

pub inside : {A : Type 0} (x y : A) → Some x ≡ Some y → x ≡ y
inside x y e = cc

taken_is : {A : Type 0} (ws : List (List ℕ)) (o : Option A) (p : A × List (List ℕ))
    → taken ws o ≡ Some p → (o ≡ Some p.0) × (ws ≡ p.1)
taken_is ws None p e = absurd cc
taken_is {A = A} ws (Some a) p e = let both : (a, ws) ≡ p = inside (a, ws) p e in
    (ap (λ (q : A × List (List ℕ)). Some q.0) both, ap (λ (q : A × List (List ℕ)). q.1) both)

-- a word that is read so, and what follows it
pub word_step : {A B : Type 0} (read : List ℕ → Option A) (ws : List (List ℕ))
    (f : A × List (List ℕ) → Option B) (y : B) → (word_in read ws >>= f) ≡ Some y
    → (p : A × List (List ℕ)) × (w : List ℕ) × (ws ≡ w ∷ p.1) × (read w ≡ Some p.0) × (f p ≡ Some y)
word_step read [] f y e = absurd cc
word_step read (w ∷ ws) f y e =
    let step = bind_some (taken ws (read w)) f y e in
    let is = taken_is ws (read w) step.0 step.1 in
    (step.0, w, ap (λ l. w ∷ l) is.1, is.0, step.2)

pub record TakesNumber (low high : ℕ) (ws : List (List ℕ)) (n : ℕ) (rest : List (List ℕ)) : Type 0
  where
    pub above : low ≤ n
    pub below : n ≤ high
    pub spelled : ws ≡ decimal n ∷ rest

pub number_step : {B : Type 0} (low high : ℕ) (ws : List (List ℕ))
    (f : ℕ × List (List ℕ) → Option B) (y : B) → (number_in low high ws >>= f) ≡ Some y
    → (p : ℕ × List (List ℕ)) × TakesNumber low high ws p.0 p.1 × (f p ≡ Some y)
number_step low high ws f y e =
    let step = word_step (whole_in low high) ws f y e in
    let is = whole_found low high step.1 step.0.0 step.3 in (
      step.0,
      record {
        above = is.above;
        below = is.below;
        spelled = step.2
            ∙ ap (λ w. w ∷ step.0.1) is.spelled;
      },
      step.4,
    )

pub last_found : {A : Type 0} (a b : A) (ws : List (List ℕ)) → last_in a ws ≡ Some b
    → (ws ≡ []) × (a ≡ b)
last_found a b [] e = (refl, cc)
last_found a b (w ∷ ws) e = absurd cc

lone_found : (name : List ℕ) (ws : List (List ℕ)) (w : List ℕ) → lone_in name ws ≡ Some w
    → ws ≡ name ∷ w ∷ []
lone_found name [] w e = absurd cc
lone_found name (n ∷ []) w e = absurd cc
lone_found name (n ∷ v ∷ []) w e =
    let yes = if_is (bytes_eq n name) v w e in
    ap (λ x. x ∷ v ∷ []) (same_word n name yes.0) ∙ ap (λ x. name ∷ x ∷ []) yes.1
lone_found name (n ∷ v ∷ u ∷ ws) w e = absurd cc

-- a name with a word that is read so
pub named_found : {A : Type 0} (name : List ℕ) (read : List ℕ → Option A) (ws : List (List ℕ))
    (a : A) → named_in name read ws ≡ Some a
    → (w : List ℕ) × (ws ≡ name ∷ w ∷ []) × (read w ≡ Some a)
named_found name read ws a e = let step = bind_some (lone_in name ws) read a e in
    (step.0, lone_found name ws step.0 step.1, step.2)

pub named_again : {A : Type 0} (name : List ℕ) (read : List ℕ → Option A) (w : List ℕ) (a : A)
    → read w ≡ Some a → named_in name read (name ∷ w ∷ []) ≡ Some a
named_again name read w a e = rw (same_yes name) e

pub name_again : {B : Type 0} (name : List ℕ) (rest : List (List ℕ)) (f : List (List ℕ) → Option B)
    (y : B) → f rest ≡ Some y → (name_in name (name ∷ rest) >>= f) ≡ Some y
name_again name rest f y e = rw (same_yes name) e

pub word_again : {A B : Type 0} (read : List ℕ → Option A) (w : List ℕ) (rest : List (List ℕ))
    (a : A) (f : A × List (List ℕ) → Option B) (y : B)
    → read w ≡ Some a → f (a, rest) ≡ Some y → (word_in read (w ∷ rest) >>= f) ≡ Some y
word_again read w rest a f y e g = ap (λ o. taken rest o >>= f) e ∙ g

pub number_again : {B : Type 0} (low high n : ℕ) (rest : List (List ℕ))
    (f : ℕ × List (List ℕ) → Option B) (y : B) → high ≤ limit → low ≤ n → n ≤ high
    → f (n, rest) ≡ Some y → (number_in low high (decimal n ∷ rest) >>= f) ≡ Some y
number_again low high n rest f y small above below e =
    word_again (whole_in low high) (decimal n) rest n f y
    (whole_again low high (decimal n) n small
    record { above = above; below = below; spelled = refl }) e

pub if_cases : {A : Type 0} (t : Bool) (x y : Option A) (a : A) → (if t then x else y) ≡ Some a
    → ((t ≡ true) × (x ≡ Some a)) ⊎ ((t ≡ false) × (y ≡ Some a))
if_cases true x y a e = inl (refl, e)
if_cases false x y a e = inr (refl, e)
