-- A text cut at its first separator.
use Rattle.std.proofs.Common.{◌≡◌, ℕ, ◌+◌, ◌<◌, ◌==◌, Bool, true, false, not, List, [], ◌∷◌}
use Rattle.std.proofs.Common.{length, take, drop, Some, refl, sym, ap, ◌∙◌, arith}
use Rattle.std.specs.List.{position_or_len, join_with_byte}
use Rattle.std.proofs.lemmas.Bool.Decides.{nat_tests}
use Rattle.std.proofs.lemmas.List.Splits.{slice_split_first, slice_split_none, length-slice_split}
use Rattle.std.proofs.lemmas.List.Splits.{join_with_byte-slice_split}
use Rattle.std.proofs.lemmas.List.Sums.{fails_before_first}
use Rattle.ldp_spelling.specs.Pieces.{pieces, lines, words_left, ended}

pub cut_at : (at : ℕ) (text front rest : List ℕ) (place : ℕ)
    → place ≡ position_or_len (λ byte. byte == at) text → place < length text
    → front ≡ take place text → rest ≡ drop (place + 1) text
    → pieces at text ≡ front ∷ pieces at rest
cut_at at text front rest place e within f r =
    let p : ℕ → Bool = λ byte. byte == at in
    let first = slice_split_first p text 0 (omega (arith, sym e)) in
    first ∙ (ap (λ k. take k text ∷ pieces at (drop (k + 1) text)) (sym e)
    ∙ (ap (λ xs. xs ∷ pieces at (drop (place + 1) text)) (sym f)
    ∙ ap (λ xs. front ∷ pieces at xs) (sym r)))

pub cut_none : (at : ℕ) (text : List ℕ) (place : ℕ)
    → place ≡ position_or_len (λ byte. byte == at) text → place ≡ length text
    → pieces at text ≡ text ∷ []
cut_none at text place e all =
    let p : ℕ → Bool = λ byte. byte == at in
    slice_split_none p text (λ k d h. fails_before_first p text k d (omega (arith, e, all, h)))

pub pieces_some : (at : ℕ) (text : List ℕ) → 0 < length (pieces at text)
pieces_some at text = let p : ℕ
    → Bool = λ byte. byte == at in omega (arith, length-slice_split p text)

pub ended_next : (line : List ℕ) (more : List (List ℕ)) → 0 < length more
    → ended (line ∷ more) ≡ Some (line, more)
ended_next line [] h = absurd (omega arith)
ended_next line (next ∷ more) h = refl

-- the lines go on behind a cut
pub ended_at : (at : ℕ) (text front rest : List ℕ) → pieces at text ≡ front ∷ pieces at rest
    → ended (pieces at text) ≡ Some (front, pieces at rest)
ended_at at text front rest e = ap ended e ∙ ended_next front (pieces at rest) (pieces_some at rest)

pub empty_lines : (text : List ℕ) → (length text == 0) ≡ true → lines text ≡ [] ∷ []
empty_lines [] t = refl
empty_lines (b ∷ bs) t =
    absurd (let none : length (b ∷ bs) ≡ 0 = grind (arith, nat_tests) in omega arith)

pub empty_left : (at : ℕ) (text : List ℕ) → pieces at text ≡ [] ∷ [] → (length text == 0) ≡ true
empty_left at text e =
    ap (λ (t : List ℕ). length t == 0)
    (sym (join_with_byte-slice_split at text) ∙ ap (join_with_byte at) e)

pub no_words : (more : Bool) (line : List ℕ) → words_left more line ≡ [] → not more ≡ true
no_words false line e = refl
no_words true line e =
    absurd (omega (arith, pieces_some 32 line, ap (λ (ws : List (List ℕ)). length ws) e))

pub words_gone : (more : Bool) (line : List ℕ) → not more ≡ true → words_left more line ≡ []
words_gone false line e = refl
words_gone true line e = absurd cc
