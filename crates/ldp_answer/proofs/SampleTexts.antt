-- The texts of a sample: the places of its grid, the lines of its certificate, and its end.
use Rattle.std.proofs.Common.{◌≡◌, ℕ, ◌+◌, ◌<◌, ◌≤◌, ◌==◌, List, [], ◌∷◌, ◌++◌, length, map, take}
use Rattle.std.proofs.Common.{drop, get_or, None, Some, refl, sym, ap, ◌∙◌, arith, cond}
use Rattle.std.proofs.Common.{append_assoc, length-append, add-one, ◌*◌, ◌/◌, ◌%◌}
use Rattle.std.specs.Prelude.{codes, decimal, if◌then◌else◌}
use Rattle.std.specs.List.{flat_map, sum_by, range_with_len}
use Rattle.std.proofs.lemmas.List.{append-nil, drop-drop, drop_more, length-drop, length-map}
use Rattle.std.proofs.lemmas.List.{take_more, flat_map_more}
use Rattle.std.proofs.lemmas.List.Concat.{flat_map-append}
use Rattle.std.proofs.lemmas.List.Folds.{flat_map-map}
use Rattle.std.proofs.lemmas.List.FromFn.{map-range_with_len_more}
use Rattle.std.proofs.lemmas.List.Splits.{length-slice_split}
use Rattle.std.proofs.lemmas.List.Sums.{sum_by-append}
use Rattle.ldp_spelling.specs.Pieces.{lines, line_of, text_of, ended}
use Rattle.ldp_job.specs.declared.job.Job.{Job}
use Rattle.ldp_job.specs.Texts.{names_words, design_words, worst_words, report_words, entry_words}
use Rattle.ldp_job.specs.Texts.{forest_words, job_words, job_text}
use Rattle.ldp_answer.specs.SampleInputs.{next_state, state_after, place_text, sample_header}
use Rattle.ldp_answer.specs.SampleInputs.{sample_grid}
use Rattle.ldp_answer.specs.Sample.{sample_line, EndsAccepted}

-- one state more
pub state_more : (seed steps : ℕ)
    → state_after seed (steps + 1) ≡ next_state (state_after seed steps)
state_more seed steps = rw add-one refl

-- one place more
pub places_more : (f : ℕ → List ℕ) (k : ℕ)
    → flat_map f (range_with_len 0 (k + 1)) ≡ flat_map f (range_with_len 0 k) ++ f k
places_more f k =
    let before = flat_map-map (λ x. x) f (range_with_len 0 k) in
    sym (flat_map-map (λ x. x) f (range_with_len 0 (k + 1)))
    ∙ (ap (flat_map (λ x. x)) (map-range_with_len_more f 0 k k (omega arith))
    ∙ (flat_map-append (λ x. x) (map f (range_with_len 0 k)) (f k ∷ [])
    ∙ (ap (λ t. t ++ (f k ++ [])) before
    ∙ ap (λ t. flat_map f (range_with_len 0 k) ++ t) (append-nil (f k)))))

pub grid_more : (before now : List ℕ) (seed place old state : ℕ) → old ≡ state_after seed place
    → state ≡ next_state old
    → before ≡ sample_header ++ flat_map (place_text seed) (range_with_len 0 place)
    → now ≡ before ++ (decimal (1000 + 40 * (place % 16) + state / 65536 % 100)
    ++ (if place % 16 == 15 then codes "\n" else codes " "))
    → now ≡ sample_header ++ flat_map (place_text seed) (range_with_len 0 (place + 1))
grid_more before now seed place old state was next so_far pushed =
    let state_is : state ≡ state_after seed (place + 1) =
    next ∙ (ap next_state was ∙ sym (state_more seed place)) in
    pushed
    ∙ (ap (λ s. before ++ (decimal (1000 + 40 * (place % 16) + s / 65536 % 100)
    ++ (if place % 16 == 15 then codes "\n" else codes " "))) state_is
    ∙ (ap (λ t. t ++ place_text seed place) so_far
    ∙ (append_assoc sample_header (flat_map (place_text seed) (range_with_len 0 place))
    (place_text seed place)
    ∙ ap (λ t. sample_header ++ t) (sym (places_more (place_text seed) place)))))

pub grid_whole : (seed place : ℕ) (text : List ℕ) → place ≡ 192
    → text ≡ sample_header ++ flat_map (place_text seed) (range_with_len 0 place)
    → text ≡ sample_grid seed
unfolding sample_grid
grid_whole seed place text e h =
    h ∙ ap (λ k. sample_header ++ flat_map (place_text seed) (range_with_len 0 k)) e

some_is : (x y : List ℕ × List (List ℕ)) → Some x ≡ Some y → x ≡ y
some_is x y e = cc

ended_front : (ls : List (List ℕ)) (line : List ℕ) (rest : List (List ℕ))
    → ended ls ≡ Some (line, rest) → ls ≡ line ∷ rest
ended_front [] line rest e = absurd cc
ended_front (l ∷ []) line rest e = absurd cc
ended_front (l ∷ n ∷ more) line rest e =
    ap (λ taken. taken.0 ∷ taken.1) (some_is (l, n ∷ more) (line, rest) e)

ended_short : (ls : List (List ℕ)) → ended ls ≡ None → length ls ≤ 1
ended_short [] e = omega arith
ended_short (l ∷ []) e = omega arith
ended_short (l ∷ n ∷ more) e = absurd cc

-- there is a further line
pub not_ended : (ls : List (List ℕ)) (k : ℕ) → k + 1 < length ls → ended (drop k ls) ≡ None → ⊥
not_ended ls k more e =
    let short = ended_short (drop k ls) e in omega (arith, more, short, length-drop k ls)

-- the line that was taken, and those that are left
pub line_taken : (ls : List (List ℕ)) (k : ℕ) (line : List ℕ) (rest : List (List ℕ))
    → ended (drop k ls) ≡ Some (line, rest) → rest ≡ drop (k + 1) ls
line_taken ls k line rest e =
    sym (ap (drop 1) (ended_front (drop k ls) line rest e)) ∙ drop-drop 1 k ls

line_more : (ls : List (List ℕ)) (k : ℕ) (line : List ℕ) (rest : List (List ℕ))
    → k < length ls → ended (drop k ls) ≡ Some (line, rest)
    → take (k + 1) ls ≡ take k ls ++ line ∷ []
line_more ls k line rest within e =
    let front : get_or ls k line ∷ drop (k + 1) ls ≡ line ∷ rest =
    sym (drop_more ls k line within) ∙ ended_front (drop k ls) line rest e in
    let same : get_or ls k line ≡ line = cc in
    take_more ls k line within ∙ ap (λ l. take k ls ++ l ∷ []) same

-- one line more
pub report_more : (ls : List (List ℕ)) (k : ℕ) (line : List ℕ) (rest : List (List ℕ))
    (front t0 t1 t2 : List ℕ) → k + 1 < length ls → ended (drop (k + 1) ls) ≡ Some (line, rest)
    → t0 ≡ front ++ text_of (take k (drop 1 ls)) → t1 ≡ t0 ++ line → t2 ≡ t1 ++ 10 ∷ []
    → t2 ≡ front ++ text_of (take (k + 1) (drop 1 ls))
report_more ls k line rest front t0 t1 t2 within e h0 h1 h2 =
    let place : 1 + k ≡ k + 1 = omega arith in
    let same : drop k (drop 1 ls) ≡ drop (k + 1) ls =
    drop-drop k 1 ls ∙ ap (λ n. drop n ls) place in
    let short : k < length (drop 1 ls) = omega (arith, within, length-drop 1 ls) in
    let more = line_more (drop 1 ls) k line rest short (ap ended same ∙ e) in
    h2
    ∙ (ap (λ t. t ++ 10 ∷ []) (h1 ∙ ap (λ t. t ++ line) h0)
    ∙ (append_assoc (front ++ text_of (take k (drop 1 ls))) line (10 ∷ [])
    ∙ (flat_map_more (λ l. l ++ 10 ∷ []) front (take k (drop 1 ls)) line
    ∙ ap (λ taken. front ++ text_of taken) (sym more))))

feeds_of : (ls : List (List ℕ))
    → length ls ≤ sum_by (λ b. cond (b == 10) 1 0) (text_of ls)
feeds_of [] = omega arith
feeds_of (l ∷ ls) =
    let f : ℕ → ℕ = λ b. cond (b == 10) 1 0 in
    let one : sum_by f (10 ∷ []) ≡ 1 = refl in
    omega (
      arith,
      feeds_of ls,
      sum_by-append f (l ++ 10 ∷ []) (text_of ls),
      sum_by-append f l (10 ∷ []),
      one,
    )

lines_some : (ls : List (List ℕ)) → length ls < length (lines (text_of ls))
lines_some ls = omega (arith, feeds_of ls, length-slice_split (λ b. b == 10) (text_of ls))

words_some : (j : Job) → 12 < length (job_words j)
words_some j =
    omega (
      arith,
      length-append (names_words j.names) (design_words j.design ∷ worst_words j.worst j.share
          ∷ (report_words j.report ++ forest_words j.forest)),
      length-append (report_words j.report) (forest_words j.forest),
      length-append (map entry_words j.forest) ((codes "end" ∷ []) ∷ []),
    )

-- a certificate has more than twelve lines
pub job_lines : (j : Job) → 12 < length (lines (job_text j))
unfolding job_text
job_lines j =
    omega (
      arith,
      words_some j,
      length-map (job_words j) line_of,
      lines_some (map line_of (job_words j)),
    )

-- lines behind a line end with a line feed
feed_last : (front : List ℕ) (ls : List (List ℕ))
    → (f : List ℕ) × ((front ++ 10 ∷ []) ++ text_of ls ≡ f ++ 10 ∷ [])
feed_last front [] = (front, append-nil (front ++ 10 ∷ []))
feed_last front (l ∷ ls) =
    let more = feed_last ((front ++ 10 ∷ []) ++ l) ls in
    (more.0, together (front ++ 10 ∷ []) l (10 ∷ []) (text_of ls) ∙ more.1)
  where
    together : (a b c d : List ℕ) → a ++ ((b ++ c) ++ d) ≡ ((a ++ b) ++ c) ++ d
    together a b c d = simp append_assoc refl

pub ends_accepted : (n : ℕ) (ls : List (List ℕ))
    → EndsAccepted (sample_line n ++ (text_of ls ++ codes "accepted\n"))
ends_accepted n ls =
    let e = feed_last (codes "sample " ++ decimal n) ls in
    record {
      front = e.0;
      ends = together (codes "sample ") (decimal n) (10 ∷ []) (text_of ls) (codes "accepted\n")
          ∙ (ap (λ t. t ++ codes "accepted\n") e.1
          ∙ append_assoc e.0 (10 ∷ []) (codes "accepted\n"));
    }
  where
    together : (a b c d e : List ℕ) → (a ++ (b ++ c)) ++ (d ++ e) ≡ (((a ++ b) ++ c) ++ d) ++ e
    together a b c d e = simp append_assoc refl
