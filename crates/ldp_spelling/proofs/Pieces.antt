-- Pieces that are put together are the pieces that are found.
use Rattle.std.proofs.Common.{◌≡◌, ℕ, ◌==◌, ◌&&◌, nat_lt, Bool, true, false, List}
use Rattle.std.proofs.Common.{[], ◌∷◌, ◌++◌, append_assoc, refl, sym, ap, ◌∙◌, arith}
use Rattle.std.specs.List.{onto_first, list_all, join_with_byte}
use Rattle.std.proofs.lemmas.Bool.Decides.{nat_tests}
use Rattle.std.proofs.lemmas.List.Folds.{list_all-append}
use Rattle.std.proofs.lemmas.List.Splits.{slice_split-cons_yes, slice_split-cons_no}
use Rattle.std.proofs.lemmas.List.Splits.{join_with_byte-slice_split}
use Rattle.ldp_spelling.specs.Pieces.{pieces, lines, words, line_of, text_of, is_plain, is_line}

pub both : (a b : Bool) → (a && b) ≡ true → (a ≡ true) × (b ≡ true)
both true b e = (refl, e)
both false b e = absurd cc

abbrev pub is_above : ℕ → List ℕ → Bool
is_above at piece = list_all (λ byte. nat_lt at byte) piece

not_at : (at byte : ℕ) → nat_lt at byte ≡ true → (byte == at) ≡ false
not_at at byte e = grind (arith, nat_tests)

at_is : (at : ℕ) → (at == at) ≡ true
at_is at = grind (arith, nat_tests)

-- a piece without the separator, and then the separator
pub piece_at : (at : ℕ) (piece rest : List ℕ) → is_above at piece ≡ true
    → pieces at (piece ++ at ∷ rest) ≡ piece ∷ pieces at rest
piece_at at [] rest e = slice_split-cons_yes (λ byte. byte == at) at rest (at_is at)
piece_at at (b ∷ bs) rest e =
    let two = both (nat_lt at b) (is_above at bs) e in
    slice_split-cons_no (λ byte. byte == at) b (bs ++ at ∷ rest) (not_at at b two.0)
    ∙ ap (onto_first b) (piece_at at bs rest two.1)

piece_last : (at : ℕ) (piece : List ℕ) → is_above at piece ≡ true → pieces at piece ≡ piece ∷ []
piece_last at [] e = refl
piece_last at (b ∷ bs) e =
    let two = both (nat_lt at b) (is_above at bs) e in
    slice_split-cons_no (λ byte. byte == at) b bs (not_at at b two.0)
    ∙ ap (onto_first b) (piece_last at bs two.1)

-- words that are put together are found again
pub words_again : (w : List ℕ) (ws : List (List ℕ)) → list_all is_plain (w ∷ ws) ≡ true
    → words (line_of (w ∷ ws)) ≡ w ∷ ws
words_again w [] e = piece_last 32 w (both (is_plain w) true e).0
words_again w (v ∷ vs) e =
    let two = both (is_plain w) (list_all is_plain (v ∷ vs)) e in
    piece_at 32 w (line_of (v ∷ vs)) two.0 ∙ ap (λ ps. w ∷ ps) (words_again v vs two.1)

-- a line is its words
pub line_is_words : (line : List ℕ) (ws : List (List ℕ)) → words line ≡ ws → line ≡ line_of ws
line_is_words line ws e = sym (join_with_byte-slice_split 32 line) ∙ ap line_of e

above_lower : (byte : ℕ) → nat_lt 32 byte ≡ true → nat_lt 10 byte ≡ true
above_lower byte e = grind (arith, nat_tests)

pub plain_line : (w : List ℕ) → is_plain w ≡ true → is_line w ≡ true
plain_line [] e = refl
plain_line (b ∷ bs) e = let two = both (nat_lt 32 b) (is_plain bs) e in
    rw (above_lower b two.0) (plain_line bs two.1)

-- plain words make a line
pub words_line : (ws : List (List ℕ)) → list_all is_plain ws ≡ true → is_line (line_of ws) ≡ true
words_line [] e = refl
words_line (w ∷ []) e = plain_line w (both (is_plain w) true e).0
words_line (w ∷ v ∷ vs) e =
    let two = both (is_plain w) (list_all is_plain (v ∷ vs)) e in
    list_all-append (λ byte. nat_lt 10 byte) w (32 ∷ line_of (v ∷ vs))
    ∙ rw (plain_line w two.0) (words_line (v ∷ vs) two.1)

-- lines that are put together are found again
pub lines_again : (ls : List (List ℕ)) → list_all is_line ls ≡ true
    → lines (text_of ls) ≡ ls ++ [] ∷ []
lines_again [] e = refl
lines_again (l ∷ ls) e =
    let two = both (is_line l) (list_all is_line ls) e in
    ap lines (append_assoc l (10 ∷ []) (text_of ls))
    ∙ (piece_at 10 l (text_of ls) two.0 ∙ ap (λ ps. l ∷ ps) (lines_again ls two.1))

joined_more : (l : List ℕ) (ls : List (List ℕ))
    → join_with_byte 10 ((l ∷ ls) ++ [] ∷ []) ≡ l ++ 10 ∷ join_with_byte 10 (ls ++ [] ∷ [])
joined_more l [] = refl
joined_more l (m ∷ ms) = refl

joined_lines : (ls : List (List ℕ)) → join_with_byte 10 (ls ++ [] ∷ []) ≡ text_of ls
joined_lines [] = refl
joined_lines (l ∷ ls) = joined_more l ls
    ∙ (ap (λ t. l ++ 10 ∷ t) (joined_lines ls) ∙ sym (append_assoc l (10 ∷ []) (text_of ls)))

-- a text is its lines, where each is ended
pub text_is_lines : (text : List ℕ) (ls : List (List ℕ)) → lines text ≡ ls ++ [] ∷ []
    → text ≡ text_of ls
text_is_lines text ls e = sym (join_with_byte-slice_split 10 text)
    ∙ (ap (join_with_byte 10) e ∙ joined_lines ls)
