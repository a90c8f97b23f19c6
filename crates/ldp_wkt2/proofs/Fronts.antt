-- What follows a front of a text.
use Rattle.std.proofs.Common.{◌≡◌, ◌≢◌, ℕ, suc, ◌==◌, Bool, true, false, List, [], ◌∷◌, ◌++◌}
use Rattle.std.proofs.Common.{length}
use Rattle.std.proofs.Common.{Option, Some, None, option_and_then, refl, sym, ap, ◌∙◌, arith}
use Rattle.std.proofs.Common.{if◌then◌else◌, MatchOption, Bor, ◌+◌, ◌<◌, get_or, take, drop}
use Rattle.std.specs.Prelude.{bytes_eq}
use Rattle.std.proofs.lemmas.Slice.Eq.{bytes_eq-Decides}
use Rattle.std.proofs.lemmas.List.{take-append-drop}
use Rattle.std.proofs.Math.Seq.{drop-cons, take-append_seam}
use Rattle.std.specs.List.{flat_map}
use Rattle.std.proofs.lemmas.Bool.Decides.{nat_tests}
use Rattle.ldp_wkt2.specs.Reading.{rest_behind}

same_byte : (b : ℕ) → (b == b) ≡ true
same_byte b = grind (arith, nat_tests)

pub behind_again : (front rest : List ℕ) → rest_behind front (front ++ rest) ≡ Some rest
behind_again [] rest = refl
behind_again (b ∷ bs) rest = rw (same_byte b) (behind_again bs rest)

pub behind_some : (front text rest : List ℕ) → text ≡ front ++ rest
    → rest_behind front text ≡ Some rest
behind_some front text rest e = ap (rest_behind front) e ∙ behind_again front rest

next_by : (b c : ℕ) (bs cs rest : List ℕ) (t : Bool) → (b == c) ≡ t
    → (if t then rest_behind bs cs else None) ≡ Some rest
    → (b ≡ c) × (rest_behind bs cs ≡ Some rest)
next_by b c bs cs rest true t e = (grind (arith, nat_tests), e)
next_by b c bs cs rest false t e = absurd cc

pub behind_found : (front text rest : List ℕ) → rest_behind front text ≡ Some rest
    → text ≡ front ++ rest
behind_found [] text rest e = cc
behind_found (b ∷ bs) [] rest e = absurd cc
behind_found (b ∷ bs) (c ∷ cs) rest e =
    let next = next_by b c bs cs rest (b == c) refl e in
    ap (λ x. x ∷ cs) (sym next.0) ∙ ap (λ x. b ∷ x) (behind_found bs cs rest next.1)

by_cases : (front text : List ℕ) (o : Option (List ℕ)) → rest_behind front text ≡ o
    → ((rest : List ℕ) → text ≢ front ++ rest) → o ≡ None
by_cases front text None e h = refl
by_cases front text (Some rest) e h = absurd (h rest (behind_found front text rest e))

pub behind_none : (front text : List ℕ) → ((rest : List ℕ) → text ≢ front ++ rest)
    → rest_behind front text ≡ None
behind_none front text h = by_cases front text (rest_behind front text) refl h

append_by : (a b cs : List ℕ) (t : Bool)
    → rest_behind (a ++ b) cs ≡ option_and_then (rest_behind b) (rest_behind a cs)
    → (if t then rest_behind (a ++ b) cs else None)
    ≡ option_and_then (rest_behind b) (if t then rest_behind a cs else None)
append_by a b cs true e = e
append_by a b cs false e = refl

pub behind_append : (a b text : List ℕ)
    → rest_behind (a ++ b) text ≡ option_and_then (rest_behind b) (rest_behind a text)
behind_append [] b text = refl
behind_append (c ∷ a) b [] = refl
behind_append (c ∷ a) b (d ∷ ds) = append_by a b ds (c == d) (behind_append a b ds)

-- the same of what `strip_prefix` answers
pub past_if : (o : Option (Bor (List ℕ))) (front text : List ℕ)
    → MatchOption o (bytes_eq (take (length front) text) front ≡ false)
    (λ rest. (bytes_eq (take (length front) text) front ≡ true)
    × (rest.now ≡ drop (length front) text)
    × (length rest.now + length front ≡ length text))
    → MatchOption o (rest_behind front text ≡ None)
    (λ rest. rest_behind front text ≡ Some rest.now)
past_if None front text h =
    behind_none front text
    (λ rest e. absurd (let yes : bytes_eq (take (length front) text) front ≡ true =
    (bytes_eq-Decides (take (length front) text) front).1
    (ap (take (length front)) e ∙ take-append_seam front rest) in cc))
past_if (Some rest) front text h =
    behind_some front text rest.now
    (sym (take-append-drop (length front) text)
    ∙ (ap (λ x. x ++ drop (length front) text)
    ((bytes_eq-Decides (take (length front) text) front).0 h.0)
    ∙ ap (λ x. front ++ x) (sym h.1)))

abbrev pub Part : Type 0
Part = Bor (List ℕ)

abbrev pub joined : List Part → List ℕ
joined parts = flat_map (λ part. part.now) parts

-- the parts from one on
pub next_part : (parts : List Part) (i : ℕ) (d : Part) → i < length parts
    → joined (drop i parts) ≡ (get_or parts i d).now ++ joined (drop (i + 1) parts)
next_part parts i d h =
    let one : i + 1 ≡ suc i = omega arith in
    ap joined (drop-cons parts i d h)
    ∙ ap (λ k. (get_or parts i d).now ++ joined (drop k parts)) (sym one)

pub part_none : (parts : List Part) (i : ℕ) (d : Part) (left : List ℕ) → i < length parts
    → rest_behind (get_or parts i d).now left ≡ None
    → rest_behind (joined (drop i parts)) left ≡ None
part_none parts i d left h e =
    ap (λ f. rest_behind f left) (next_part parts i d h)
    ∙ (behind_append (get_or parts i d).now (joined (drop (i + 1) parts)) left
    ∙ ap (option_and_then (rest_behind (joined (drop (i + 1) parts)))) e)

pub part_some : (parts : List Part) (i : ℕ) (d : Part) (left rest : List ℕ) → i < length parts
    → rest_behind (get_or parts i d).now left ≡ Some rest
    → rest_behind (joined (drop i parts)) left ≡ rest_behind (joined (drop (i + 1) parts)) rest
part_some parts i d left rest h e =
    ap (λ f. rest_behind f left) (next_part parts i d h)
    ∙ (behind_append (get_or parts i d).now (joined (drop (i + 1) parts)) left
    ∙ ap (option_and_then (rest_behind (joined (drop (i + 1) parts)))) e)

-- nothing follows, where nothing is told
pub is_none : (o : Option Part) (r : Option (List ℕ)) → o ≡ None → r ≡ None
    → MatchOption o (r ≡ None) (λ rest. r ≡ Some rest.now)
is_none None r e h = h
is_none (Some rest) r e h = absurd cc
