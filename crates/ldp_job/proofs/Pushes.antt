-- A text that is put together piece by piece.
use Rattle.std.proofs.Common.{◌≡◌, ℕ, ◌+◌, ◌<◌, ◌≤◌, List, [], ◌∷◌, ◌++◌, append_assoc, length, map}
use Rattle.std.proofs.Common.{take, ℤ, unsigned_abs, to_z, of_z, OnOk, Some, Result}
use Rattle.std.proofs.Common.{Ok, Err, refl, sym, ap, ◌∙◌, arith}
use Rattle.std.specs.Prelude.{slice_get}
use Rattle.std.specs.Int.{w128}
use Rattle.std.proofs.lemmas.Int.{to_z-of_z, fits_signed_from_abs}
use Rattle.std.proofs.lemmas.Option.{get_or_from_slice_get}
use Rattle.std.proofs.lemmas.List.{append-nil, map-append, take_more}
use Rattle.std.proofs.lemmas.Grind.{flat_map-append}
use Rattle.ldp_num.specs.Number.{limit}
use Rattle.ldp_spelling.specs.Texts.{Words, line_text, lines_text}
use Rattle.ldp_spelling.proofs.Texts.{text_is, line_more}
use Rattle.ldp_design.specs.declared.node.Node.{Node}
use Rattle.ldp_job.specs.declared.job.Job.{Job}
use Rattle.ldp_job.specs.Texts.{version_words, names_words, design_words, worst_words}
use Rattle.ldp_job.specs.Texts.{report_words, entry_words, forest_words, job_words, job_text}
use Rattle.ldp_job.specs.Pushed.{projection_words, cell_words}

five_pieces : (t a b c d e : List ℕ)
    → ((((t ++ a) ++ b) ++ c) ++ d) ++ e ≡ t ++ (a ++ (b ++ (c ++ (d ++ (e ++ [])))))
five_pieces t a b c d e = simp (append_assoc, append-nil) refl

pub five : (t0 t1 t2 t3 t4 t5 a b c d e : List ℕ) → t1 ≡ t0 ++ a → t2 ≡ t1 ++ b → t3 ≡ t2 ++ c
    → t4 ≡ t3 ++ d → t5 ≡ t4 ++ e
    → t5 ≡ t0 ++ (a ++ (b ++ (c ++ (d ++ (e ++ [])))))
five t0 t1 t2 t3 t4 t5 a b c d e h1 h2 h3 h4 h5 = let whole : t5 ≡ ((((t0 ++ a) ++ b) ++ c) ++ d)
    ++ e = cc in whole ∙ five_pieces t0 a b c d e

seven_pieces : (a b c d e f g : List ℕ)
    → ((((((([] ++ a) ++ b) ++ c) ++ d) ++ e) ++ f) ++ g) ≡ a
    ++ (b ++ (c ++ (d ++ (e ++ (f ++ g)))))
seven_pieces a b c d e f g = simp (append_assoc) refl

pub seven : (t0 t1 t2 t3 t4 t5 t6 t7 a b c d e f g : List ℕ) → t0 ≡ [] → t1 ≡ t0 ++ a → t2 ≡ t1 ++ b
    → t3 ≡ t2 ++ c → t4 ≡ t3 ++ d → t5 ≡ t4 ++ e → t6 ≡ t5 ++ f → t7 ≡ t6 ++ g
    → t7 ≡ a ++ (b ++ (c ++ (d ++ (e ++ (f ++ g)))))
seven t0 t1 t2 t3 t4 t5 t6 t7 a b c d e f g h0 h1 h2 h3 h4 h5 h6 h7 =
    let whole : t7 ≡ ((((((([] ++ a) ++ b) ++ c) ++ d) ++ e) ++ f) ++ g) = cc in whole
    ∙ seven_pieces a b c d e f g

pub on_ok : {A E : Type 0} (r : Result A E) (P Q : Type 0) → (P → Q) → OnOk r P → OnOk r Q
on_ok (Ok a) P Q f h = f h
on_ok (Err e) P Q f h = h

-- the text of a job, by its parts
pub parts_text : (j : Job) → line_text (version_words j.names) ++ (lines_text (names_words j.names)
    ++ (line_text (design_words j.design) ++ (line_text (worst_words j.worst j.share)
    ++ (lines_text (projection_words j.report)
    ++ (lines_text (cell_words j.report) ++ lines_text (forest_words j.forest)))))) ≡ job_text j
unfolding job_text
parts_text j =
    let body : List Words = design_words j.design ∷ worst_words j.worst j.share
    ∷ (report_words j.report ++ forest_words j.forest) in
    let report : lines_text (report_words j.report ++ forest_words j.forest)
    ≡ lines_text (projection_words j.report)
    ++ (lines_text (cell_words j.report) ++ lines_text (forest_words j.forest)) =
    flat_map-append line_text (projection_words j.report)
    (cell_words j.report ++ forest_words j.forest)
    ∙ ap (λ t. lines_text (projection_words j.report) ++ t)
    (flat_map-append line_text (cell_words j.report) (forest_words j.forest)) in
    sym (text_is (job_words j)
    ∙ ap (λ t. line_text (version_words j.names) ++ t)
    (flat_map-append line_text (names_words j.names) body
    ∙ ap (λ t. lines_text (names_words j.names)
    ++ (line_text (design_words j.design) ++ (line_text (worst_words j.worst j.share) ++ t)))
    report))

-- one entry more
pub entries_more : (fs : List Node) (i : ℕ) (n : Node) (t0 t1 t2 : List ℕ) → i < length fs
    → slice_get fs i ≡ Some n
    → t1 ≡ t0 ++ lines_text (map entry_words (take i fs)) → t2 ≡ t1 ++ line_text (entry_words n)
    → t2 ≡ t0 ++ lines_text (map entry_words (take (i + 1) fs))
entries_more fs i n t0 t1 t2 within found so_far pushed =
    let next : take (i + 1) fs ≡ take i fs ++ n ∷ [] = take_more fs i n within
    ∙ ap (λ x. take i fs ++ x ∷ []) (get_or_from_slice_get fs i n n found) in
    let all : map entry_words (take (i + 1) fs) ≡ map entry_words (take i fs) ++ entry_words n
    ∷ [] = ap (map entry_words) next ∙ map-append entry_words (take i fs) (n ∷ []) in
    line_more t0 t1 t2 (map entry_words (take i fs)) (map entry_words (take (i + 1) fs))
    (entry_words n) so_far pushed all

-- a number of a report is kept as it is
pub held : (z : ℤ) → unsigned_abs z ≤ limit → to_z w128 (of_z w128 z) ≡ z
held z small = to_z-of_z w128 z (fits_signed_from_abs w128 z (omega (arith, small)))
