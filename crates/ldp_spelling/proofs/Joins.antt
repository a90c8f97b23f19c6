-- A text compared piece by piece.
use Rattle.std.proofs.Common.{◌≡◌, ◌≢◌, ℕ, ◌-◌, ◌^◌, ◌<◌, ◌≤◌, ◌==◌, Bool, true, false, List, []}
use Rattle.std.proofs.Common.{◌∷◌, ◌++◌, length, replicate, decimal, append_assoc, refl, sym, ap}
use Rattle.std.proofs.Common.{◌∙◌, arith}
use Rattle.std.specs.Prelude.{bytes_eq}
use Rattle.std.proofs.lemmas.Slice.Eq.{bytes_eq-Decides}
use Rattle.std.proofs.lemmas.Bool.Decides.{nat_tests}
use Rattle.ldp_decimal.specs.Writing.{padded, pointed, without_zeros}
use Rattle.ldp_spelling.specs.Numbers.{behind_point}
use Rattle.ldp_spelling.proofs.Zeros.{trimmed_point, fixed_point}

cases_of : (b : Bool) → (b ≡ true → ⊥) → b ≡ false
cases_of false h = refl
cases_of true h = absurd (h refl)

pub differs : (a b : List ℕ) → (a ≡ b → ⊥) → bytes_eq a b ≡ false
differs a b h = cases_of (bytes_eq a b) (λ t. h ((bytes_eq-Decides a b).0 t))

-- a front that the text does not have
pub no_front : (text front rest : List ℕ) → ((r : List ℕ) → text ≢ front ++ r)
    → bytes_eq (front ++ rest) text ≡ false
no_front text front rest h = differs (front ++ rest) text (λ e. h rest (sym e))

same_by : (a b : Bool) → (a ≡ true → b ≡ true) → (b ≡ true → a ≡ true) → a ≡ b
same_by true b f g = sym (f refl)
same_by false false f g = refl
same_by false true f g = g refl

cancel : (front a b : List ℕ) → front ++ a ≡ front ++ b → a ≡ b
cancel [] a b e = e
cancel (x ∷ front) a b e = cancel front a b (cc)

-- both have the front
pub past_front : (front a b : List ℕ) → bytes_eq (front ++ a) (front ++ b) ≡ bytes_eq a b
past_front front a b =
    same_by (bytes_eq (front ++ a) (front ++ b)) (bytes_eq a b)
    (λ t. (bytes_eq-Decides a b).1
    (cancel front a b ((bytes_eq-Decides (front ++ a) (front ++ b)).0 t)))
    (λ t. (bytes_eq-Decides (front ++ a) (front ++ b)).1
    (ap (λ r. front ++ r) ((bytes_eq-Decides a b).0 t)))

pub same_behind : (text front rest a : List ℕ) → text ≡ front ++ rest
    → bytes_eq (front ++ a) text ≡ bytes_eq a rest
same_behind text front rest a e = ap (λ t. bytes_eq (front ++ a) t) e ∙ past_front front a rest

pub swapped : (a b : List ℕ) → bytes_eq a b ≡ bytes_eq b a
swapped a b =
    same_by (bytes_eq a b) (bytes_eq b a)
    (λ t. (bytes_eq-Decides b a).1 (sym ((bytes_eq-Decides a b).0 t)))
    (λ t. (bytes_eq-Decides a b).1 (sym ((bytes_eq-Decides b a).0 t)))

-- a text that goes on behind two pieces
pub joined : (text s w p rest : List ℕ) → text ≡ (s ++ w) ++ rest
    → bytes_eq (s ++ (w ++ p)) text ≡ bytes_eq p rest
joined text s w p rest e = ap (λ t. bytes_eq t text) (sym (append_assoc s w p))
    ∙ same_behind text (s ++ w) rest p e

pub not_joined : (text s w p : List ℕ) → ((r : List ℕ) → text ≢ (s ++ w) ++ r)
    → bytes_eq (s ++ (w ++ p)) text ≡ false
not_joined text s w p h = ap (λ t. bytes_eq t text) (sym (append_assoc s w p))
    ∙ no_front text (s ++ w) p h

pub point_joined : (text after rest : List ℕ) (count : ℕ) (digits : List ℕ) → 0 < length digits
    → text ≡ (46 ∷ []) ++ after
    → after ≡ replicate count 48 ++ rest
    → bytes_eq (behind_point count digits) text ≡ bytes_eq rest digits
point_joined text after rest count [] h e f = absurd (omega arith)
point_joined text after rest count (d ∷ ds) h e f =
    same_behind text (46 ∷ []) after (replicate count 48 ++ d ∷ ds) e
    ∙ (same_behind after (replicate count 48) rest (d ∷ ds) f ∙ swapped (d ∷ ds) rest)

pub empty_test : (text : List ℕ) → bytes_eq [] text ≡ (length text == 0)
empty_test [] = refl
empty_test (b ∷ bs) = let no : (length (b ∷ bs) == 0) ≡ false = grind (arith, nat_tests) in sym no

-- the digits behind the point, as they are compared
pub trimmed_test : (places n count : ℕ) (digits text s w rest : List ℕ) → 1 ≤ places
    → digits ≡ decimal n → count ≡ places - length digits
    → text ≡ (s ++ w) ++ rest
    → bytes_eq (s ++ (w ++ pointed (without_zeros (padded places n)))) text
    ≡ bytes_eq (behind_point count (without_zeros digits)) rest
trimmed_test places n count digits text s w rest some d k e =
    joined text s w (pointed (without_zeros (padded places n))) rest e
    ∙ ap (λ p. bytes_eq p rest)
    (trimmed_point places n some
    ∙ (ap (λ ds. behind_point (places - length ds) (without_zeros ds)) (sym d)
    ∙ ap (λ j. behind_point j (without_zeros digits)) (sym k)))

pub fixed_test : (places n count : ℕ) (digits text s w rest : List ℕ) → 1 ≤ places → n < 2 ^ 64
    → digits ≡ decimal n → count ≡ places - length digits
    → text ≡ (s ++ w) ++ rest
    → bytes_eq (s ++ (w ++ pointed (padded places n))) text
    ≡ bytes_eq (behind_point count digits) rest
fixed_test places n count digits text s w rest some small d k e =
    joined text s w (pointed (padded places n)) rest e
    ∙ ap (λ p. bytes_eq p rest)
    (fixed_point places n some small
    ∙ (ap (λ ds. behind_point (places - length ds) ds) (sym d)
    ∙ ap (λ j. behind_point j digits) (sym k)))
