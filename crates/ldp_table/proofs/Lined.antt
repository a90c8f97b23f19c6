-- Lines put together one after another.
use Rattle.std.proofs.Common.{◌≡◌, ℕ, zero, suc, ◌+◌, ◌<◌, List, [], ◌∷◌, ◌++◌, append_assoc}
use Rattle.std.proofs.Common.{length, map, get_or, take, refl, sym, ap, ◌∙◌, arith, add-one}
use Rattle.std.proofs.Common.{OnOk, Result, Ok, Err}
use Rattle.std.proofs.lemmas.List.{map-append, take_more}
use Rattle.std.proofs.lemmas.Grind.{flat_map-append}
use Rattle.ldp_spelling.specs.Texts.{Words, line_text, lines_text}
use Rattle.ldp_table.specs.declared.row.Row.{Row}
use Rattle.ldp_table.specs.Texts.{row_words, band_words, over_words, bands_words}

pub on_ok : {A E : Type 0} (r : Result A E) (P Q : Type 0) → (P → Q) → OnOk r P → OnOk r Q
on_ok (Ok a) P Q f h = f h
on_ok (Err e) P Q f h = h

pub row_more : (rows : List Row) (i : ℕ) (d : Row) → i < length rows
    → map row_words (take (i + 1) rows) ≡ map row_words (take i rows) ++ row_words (get_or rows i d)
    ∷ []
row_more rows i d h =
    ap (map row_words) (take_more rows i d h)
    ∙ map-append row_words (take i rows) (get_or rows i d ∷ [])

band_suc : (ends counts : List ℕ) (i : ℕ) → i < length ends → length ends < length counts
    → take (suc i) (bands_words ends counts)
    ≡ take i (bands_words ends counts) ++ band_words (get_or ends i 0) (get_or counts i 0) ∷ []
band_suc [] counts i h k = absurd (omega arith)
band_suc (e ∷ es) [] i h k = absurd (omega arith)
band_suc (e ∷ es) (c ∷ cs) zero h k = refl
band_suc (e ∷ es) (c ∷ cs) (suc i) h k =
    ap (λ ws. band_words e c ∷ ws) (band_suc es cs i (omega arith) (omega arith))

pub band_more : (ends counts : List ℕ) (i : ℕ) → i < length ends → length ends < length counts
    → take (i + 1) (bands_words ends counts)
    ≡ take i (bands_words ends counts) ++ band_words (get_or ends i 0) (get_or counts i 0) ∷ []
band_more ends counts i h k = ap (λ n. take n (bands_words ends counts)) (add-one i)
    ∙ band_suc ends counts i h k

-- all bands, and what is over
pub bands_end : (ends counts : List ℕ) → length counts ≡ suc (length ends)
    → bands_words ends counts
    ≡ take (length ends) (bands_words ends counts)
    ++ over_words (get_or counts (length ends) 0) ∷ []
bands_end [] [] h = absurd (omega arith)
bands_end [] (c ∷ []) h = refl
bands_end [] (c ∷ d ∷ cs) h = absurd (omega arith)
bands_end (e ∷ es) [] h = absurd (omega arith)
bands_end (e ∷ es) (c ∷ cs) h =
    ap (λ ws. band_words e c ∷ ws) (bands_end es cs (omega arith))

-- the words of a row, with a separator between two of them and an end
row_pieces : (t a b c d e f s n : List ℕ)
    → (((((t ++ (a ++ (s ++ b))) ++ (s ++ c)) ++ (s ++ d)) ++ (s ++ e)) ++ (s ++ f)) ++ n
    ≡ t ++ ((a ++ (s ++ (b ++ (s ++ (c ++ (s ++ (d ++ (s ++ (e ++ (s ++ f)))))))))) ++ n)
row_pieces t a b c d e f s n = simp append_assoc refl

pub row_is : (t0 t1 t2 t3 t4 t5 t6 a b c d e f : List ℕ) → t1 ≡ t0 ++ (a ++ 32 ∷ b)
    → t2 ≡ t1 ++ 32 ∷ c → t3 ≡ t2 ++ 32 ∷ d → t4 ≡ t3 ++ 32 ∷ e → t5 ≡ t4 ++ 32 ∷ f
    → t6 ≡ t5 ++ 10 ∷ [] → t6 ≡ t0 ++ line_text (a ∷ b ∷ c ∷ d ∷ e ∷ f ∷ [])
row_is t0 t1 t2 t3 t4 t5 t6 a b c d e f h1 h2 h3 h4 h5 h6 =
    let whole : t6
    ≡ ((((((t0 ++ (a ++ 32 ∷ b)) ++ 32 ∷ c) ++ 32 ∷ d) ++ 32 ∷ e) ++ 32 ∷ f) ++ 10 ∷ []) =
    cc in whole ∙ row_pieces t0 a b c d e f (32 ∷ []) (10 ∷ [])

-- the rows, the line of the cells and the bands
pub table_is : (t0 t1 t2 t3 : List ℕ) (rows bands : List Words) (cells : Words) → t0 ≡ []
    → t1 ≡ t0 ++ lines_text rows → t2 ≡ t1 ++ line_text cells → t3 ≡ t2 ++ lines_text bands
    → t3 ≡ lines_text (rows ++ cells ∷ bands)
table_is t0 t1 t2 t3 rows bands cells h0 h1 h2 h3 =
    let whole : t3 ≡ (([] ++ lines_text rows) ++ line_text cells) ++ lines_text bands = cc in
    whole ∙ (append_assoc (lines_text rows) (line_text cells) (lines_text bands)
    ∙ sym (flat_map-append line_text rows (cells ∷ bands)))
