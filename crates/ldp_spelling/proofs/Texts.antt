-- Lines of words that are written one after another.
use Rattle.std.proofs.Common.{◌≡◌, ℕ, List, [], ◌∷◌, ◌++◌, map, refl, sym, ap, ◌∙◌}
use Rattle.std.proofs.lemmas.List.{flat_map_more}
use Rattle.ldp_spelling.specs.Pieces.{line_of, text_of}
use Rattle.ldp_spelling.specs.Texts.{Words, line_text, lines_text}

pub text_is : (lines : List Words) → text_of (map line_of lines) ≡ lines_text lines
text_is [] = refl
text_is (l ∷ ls) = ap (λ t. (line_of l ++ 10 ∷ []) ++ t) (text_is ls)

-- one line more
pub line_more : (t0 t1 t2 : List ℕ) (lines all : List Words) (line : Words)
    → t1 ≡ t0 ++ lines_text lines → t2 ≡ t1 ++ line_text line → all ≡ lines ++ line ∷ []
    → t2 ≡ t0 ++ lines_text all
line_more t0 t1 t2 lines all line so_far pushed is =
    pushed ∙ (ap (λ t. t ++ line_text line) so_far
    ∙ (flat_map_more line_text t0 lines line ∙ ap (λ ws. t0 ++ lines_text ws) (sym is)))
