-- The further lines before the forest: what is read is what is written, and what is written is
-- read.
use Rattle.std.proofs.Common.{◌≡◌, ℕ, ◌≤◌, ◌≤ℤ◌, lit≤, ℤ, pos, negsuc, neg_ℤ}
use Rattle.std.proofs.Common.{unsigned_abs, List, [], ◌∷◌, decimal, codes, Option, Some, None}
use Rattle.std.proofs.Common.{IfSome, refl, sym, ap, subst, ◌∙◌, inl, inr, arith, rules}
use Rattle.std.specs.Prelude.{bytes_eq}
use Rattle.std.proofs.lemmas.Int.{ints}
use Rattle.hex.specs.Hex.{encode_lower}
use Rattle.ldp_decimal.specs.Writing.{decimal_text, trimmed_text}
use Rattle.ldp_quantity.specs.Between.{IsBetween}
use Rattle.ldp_num.specs.Number.{limit}
use Rattle.ldp_spelling.specs.Numbers.{whole_in, trimmed_in, fixed_in}
use Rattle.ldp_spelling.specs.Hashes.{hash_in, IsHash}
use Rattle.ldp_spelling.proofs.Written.{whole_found, whole_again, trimmed_found, trimmed_again}
use Rattle.ldp_spelling.proofs.Written.{fixed_found, fixed_again}
use Rattle.ldp_spelling.proofs.Hashes.{hash_found, hash_is, hash_again}
use Rattle.ldp_design.specs.declared.family.Kind.{Kind}
use Rattle.ldp_design.specs.declared.family.Kind.TheVariants.{Tm, Lambert, Hotine, Lambert2}
use Rattle.ldp_job.specs.declared.share.Share.{Share}
use Rattle.ldp_job.specs.Words.{◌>>=◌, last_in, named_in}
use Rattle.ldp_design.specs.Limits.{most_tolerance}
use Rattle.ldp_job.specs.Values.{IsCount, IsWorst, IsShare}
use Rattle.ldp_job.specs.Texts.{share_words, worst_words}
use Rattle.ldp_job.specs.Lines.{version_in, share_in, share_after, worst_in, at_in}
use Rattle.ldp_job.specs.Lines.{cells_in}
use Rattle.ldp_job.specs.Values.{most}
use Rattle.ldp_design.specs.Words.{kind_text, kind_named}
use Rattle.ldp_job.proofs.Taken.{IsRead, bind_some, name_step, number_step, last_found}
use Rattle.ldp_job.proofs.Taken.{number_again, named_found, named_again, and_then, if_cases, if_is}
use Rattle.ldp_job.proofs.Taken.{same_word, inside}

-- the number of the first line
pub version_found : (ws : List (List ℕ)) (n : ℕ) → version_in ws ≡ Some n
    → (ws ≡ codes "ldp" ∷ codes "job" ∷ decimal n ∷ []) × (n ≤ most)
unfolding version_in
version_found ws n e =
    let a = name_step (codes "ldp") ws _ n e in
    let b = name_step (codes "job") a.0 _ n a.2 in
    let version = number_step 0 most b.0 _ n b.2 in
    let end = last_found _ n version.0.1 version.2 in (
      and_then a.1
          (and_then b.1
          (version.1.spelled
          ∙ (ap (λ l. decimal version.0.0 ∷ l) end.0 ∙ ap (λ k. decimal k ∷ []) end.1))),
      omega (arith, end.1, version.1.below),
    )

pub version_again : (n : ℕ) → n ≤ most
    → version_in (codes "ldp" ∷ codes "job" ∷ decimal n ∷ []) ≡ Some n
unfolding version_in
version_again n h = number_again 0 most n _ _ n (lit≤ tt) (omega arith) h refl

-- a number that is not negative
pub positive : (high z : ℤ) → IsBetween (pos 0) high z → z ≡ pos (unsigned_abs z)
positive high (pos n) h = refl
positive high (negsuc n) h = absurd h.0.le

pub between_pos : (high n : ℕ) → n ≤ high → IsBetween (pos 0) (pos high) (pos n)
between_pos high n h = (search (ints, rules, h), search (ints, rules, h))

pub below_pos : (high : ℕ) (z : ℤ) → IsBetween (pos 0) (pos high) z → unsigned_abs z ≤ high
below_pos high z h = omega (arith, ints, h.0, h.1)

share_found : (ws : List (List ℕ)) (s : Share) → share_in ws ≡ Some s
    → IsRead (λ x. share_words (Some x)) IsShare ws s
unfolding share_in
share_found ws s e =
    let a = name_step (codes "over") ws _ s e in
    let over = number_step 0 most a.0 _ s a.2 in
    let b = name_step (codes "beyond") over.0.1 _ s over.2 in
    let tolerance = number_step 0 most_tolerance b.0 _ s b.2 in
    let end = last_found _ s tolerance.0.1 tolerance.2 in
    subst (λ x. IsRead (λ y. share_words (Some y)) IsShare ws x) end.1 record {
      valid = record {
        over = over.1.below;
        tolerance = between_pos most_tolerance tolerance.0.0 tolerance.1.below;
      };
      same = and_then a.1
          (and_then over.1.spelled (and_then b.1 (and_then tolerance.1.spelled end.0)));
    }

pub share_after_found : (ws : List (List ℕ)) (share : Option Share) → share_after ws ≡ Some share
    → IsRead share_words (λ s. IfSome s IsShare) ws share
unfolding share_after
share_after_found [] share e =
    subst (λ x. IsRead share_words (λ s. IfSome s IsShare) [] x) (inside None share e)
    record { valid = tt; same = refl }
share_after_found (w ∷ ws) share e =
    let step = bind_some (share_in (w ∷ ws)) _ share e in
    let found = share_found (w ∷ ws) step.0 step.1 in
    subst (λ x. IsRead share_words (λ s. IfSome s IsShare) (w ∷ ws) x)
    (inside (Some step.0) share step.2) record { valid = found.valid; same = found.same }

share_again : (s : Share) → IsShare s → share_in (share_words (Some s)) ≡ Some s
unfolding share_in
share_again s h =
    number_again 0 most s.over _ _ s (lit≤ tt) (omega arith) h.over
    (number_again 0 most_tolerance (unsigned_abs s.tolerance) _ _ s (lit≤ tt) (omega arith)
    (below_pos most_tolerance s.tolerance h.tolerance)
    (ap (λ (t : ℤ). last_in {A = Share} record { over = s.over; tolerance = t } [])
    (sym (positive (pos most_tolerance) s.tolerance h.tolerance))))

share_after_again : (share : Option Share) → IfSome share IsShare
    → share_after (share_words share) ≡ Some share
unfolding share_after
share_after_again None h = refl
share_after_again (Some s) h = ap (λ o. o >>= (λ share. Some (Some share))) (share_again s h)

-- the worst and the share
abbrev pub Objective : Type 0
Objective = ℤ × Option Share

abbrev pub objective_words : Objective → List (List ℕ)
objective_words o = worst_words o.0 o.1

abbrev pub IsObjective : Objective → Type 0
IsObjective o = IsWorst o.0 × IfSome o.1 IsShare

pub worst_found : (ws : List (List ℕ)) (o : Objective) → worst_in ws ≡ Some o
    → IsRead objective_words IsObjective ws o
unfolding worst_in
worst_found ws o e =
    let a = name_step (codes "worst") ws _ o e in
    let worst = number_step 0 limit a.0 _ o a.2 in
    let share = bind_some (share_after worst.0.1) _ o worst.2 in
    let found = share_after_found worst.0.1 share.0 share.1 in
    subst (λ x. IsRead objective_words IsObjective ws x) (inside (pos worst.0.0, share.0) o share.2)
    record {
      valid = (between_pos limit worst.0.0 worst.1.below, found.valid);
      same = and_then a.1 (and_then worst.1.spelled found.same);
    }

pub worst_again : (o : Objective) → IsObjective o → worst_in (objective_words o) ≡ Some o
unfolding worst_in
worst_again o h =
    number_again 0 limit (unsigned_abs o.0) _ _ o (lit≤ tt) (omega arith) (below_pos limit o.0 h.0)
    (ap (λ s. s >>= (λ share. Some (pos (unsigned_abs o.0), share))) (share_after_again o.1 h.1)
    ∙ ap (λ z. Some (z, o.1)) (sym (positive (pos limit) o.0 h.0)))

kind_of_found : (w : List ℕ) (k : Kind) → kind_named w ≡ Some k → w ≡ kind_text k
kind_of_found w k e =
    elim (if_cases (bytes_eq w (codes "tm")) _ _ k e) [
      | inl hit ↦ same_word w (codes "tm") hit.0 ∙ ap kind_text (inside Tm k hit.1)
      | inr miss ↦ elim (if_cases (bytes_eq w (codes "lambert")) _ _ k miss.1) [
        | inl hit ↦ same_word w (codes "lambert") hit.0 ∙ ap kind_text (inside Lambert k hit.1)
        | inr miss ↦ elim (if_cases (bytes_eq w (codes "hotine")) _ _ k miss.1) [
          | inl hit ↦ same_word w (codes "hotine") hit.0 ∙ ap kind_text (inside Hotine k hit.1)
          | inr miss ↦
              let hit = if_is (bytes_eq w (codes "lambert2")) Lambert2 k miss.1 in
              same_word w (codes "lambert2") hit.0 ∙ ap kind_text hit.1
        ]
      ]
    ]

kind_of_again : (k : Kind) → kind_named (kind_text k) ≡ Some k
kind_of_again Tm = refl
kind_of_again Lambert = refl
kind_of_again Hotine = refl
kind_of_again Lambert2 = refl

abbrev pub kind_words : Kind → List (List ℕ)
kind_words k = codes "kind" ∷ kind_text k ∷ []

abbrev pub Always : {A : Type 0} → A → Type 0
Always a = Unit {0}

pub kind_found : (ws : List (List ℕ)) (k : Kind) → named_in (codes "kind") kind_named ws ≡ Some k
    → IsRead kind_words Always ws k
kind_found ws k e =
    let found = named_found (codes "kind") kind_named ws k e in
    record {
      valid = tt;
      same = found.1
          ∙ ap (λ w. codes "kind" ∷ w ∷ []) (kind_of_found found.0 k found.2);
    }

pub kind_again : (k : Kind) → named_in (codes "kind") kind_named (kind_words k) ≡ Some k
kind_again k = named_again (codes "kind") kind_named (kind_text k) k (kind_of_again k)

-- a name and a trimmed number
abbrev pub trimmed_words : List ℕ → ℕ → ℤ → List (List ℕ)
trimmed_words name places z = name ∷ trimmed_text places z ∷ []

pub trimmed_line_found : (name : List ℕ) (places : ℕ) (low high : ℤ) (ws : List (List ℕ)) (z : ℤ)
    → named_in name (trimmed_in places low high) ws ≡ Some z
    → IsRead (trimmed_words name places) (IsBetween low high) ws z
trimmed_line_found name places low high ws z e =
    let found = named_found name (trimmed_in places low high) ws z e in
    let is = trimmed_found places low high found.0 z found.2 in
    record { valid = (is.above, is.below); same = found.1 ∙ ap (λ w. name ∷ w ∷ []) is.spelled }

pub trimmed_line_again : (name : List ℕ) (places : ℕ) (low high z : ℤ) → places ≤ 15
    → neg_ℤ (pos limit) ≤ℤ low → high ≤ℤ pos limit → IsBetween low high z
    → named_in name (trimmed_in places low high) (trimmed_words name places z) ≡ Some z
trimmed_line_again name places low high z few l h is =
    named_again name (trimmed_in places low high) (trimmed_text places z) z
    (trimmed_again places low high (trimmed_text places z) z few l h
    record { above = is.0; below = is.1; spelled = refl })

abbrev pub ppm_words : ℤ → List (List ℕ)
ppm_words z = codes "ppm" ∷ decimal_text 9 z ∷ []

pub ppm_found : (ws : List (List ℕ)) (z : ℤ)
    → named_in (codes "ppm") (fixed_in 9 (pos 0) (pos limit)) ws ≡ Some z
    → IsRead ppm_words IsWorst ws z
ppm_found ws z e =
    let found = named_found (codes "ppm") (fixed_in 9 (pos 0) (pos limit)) ws z e in
    let is = fixed_found 9 (pos 0) (pos limit) found.0 z found.2 in
    record {
      valid = (is.above, is.below);
      same = found.1
          ∙ ap (λ w. codes "ppm" ∷ w ∷ []) is.spelled;
    }

pub ppm_again : (z : ℤ) → IsWorst z
    → named_in (codes "ppm") (fixed_in 9 (pos 0) (pos limit)) (ppm_words z) ≡ Some z
ppm_again z is =
    named_again (codes "ppm") (fixed_in 9 (pos 0) (pos limit)) (decimal_text 9 z) z
    (fixed_again 9 (pos 0) (pos limit) (decimal_text 9 z) z (lit≤ tt) record { le = tt }
    record { le = tt } record { above = is.0; below = is.1; spelled = refl })

abbrev pub Pair : Type 0
Pair = ℕ × ℕ

abbrev pub ArePair : Pair → Type 0
ArePair p = IsCount p.0 × IsCount p.1

abbrev pub at_words : Pair → List (List ℕ)
at_words p = codes "at" ∷ decimal p.0 ∷ decimal p.1 ∷ []

pub at_found : (ws : List (List ℕ)) (p : Pair) → at_in ws ≡ Some p → IsRead at_words ArePair ws p
unfolding at_in
at_found ws p e =
    let a = name_step (codes "at") ws _ p e in
    let row = number_step 0 most a.0 _ p a.2 in
    let col = number_step 0 most row.0.1 _ p row.2 in
    let end = last_found _ p col.0.1 col.2 in
    subst (λ x. IsRead at_words ArePair ws x) end.1 record {
      valid = (row.1.below, col.1.below);
      same = and_then a.1 (and_then row.1.spelled (and_then col.1.spelled end.0));
    }

pub at_again : (p : Pair) → ArePair p → at_in (at_words p) ≡ Some p
unfolding at_in
at_again p h =
    number_again 0 most p.0 _ _ p (lit≤ tt) (omega arith) h.0
    (number_again 0 most p.1 _ _ p (lit≤ tt) (omega arith) h.1 refl)

abbrev pub cells_words : Pair → List (List ℕ)
cells_words p = codes "cells" ∷ decimal p.0 ∷ codes "missing" ∷ decimal p.1 ∷ []

pub cells_found : (ws : List (List ℕ)) (p : Pair) → cells_in ws ≡ Some p
    → IsRead cells_words ArePair ws p
unfolding cells_in
cells_found ws p e =
    let a = name_step (codes "cells") ws _ p e in
    let cells = number_step 0 most a.0 _ p a.2 in
    let b = name_step (codes "missing") cells.0.1 _ p cells.2 in
    let missing = number_step 0 most b.0 _ p b.2 in
    let end = last_found _ p missing.0.1 missing.2 in
    subst (λ x. IsRead cells_words ArePair ws x) end.1 record {
      valid = (cells.1.below, missing.1.below);
      same = and_then a.1
          (and_then cells.1.spelled (and_then b.1 (and_then missing.1.spelled end.0)));
    }

pub cells_again : (p : Pair) → ArePair p → cells_in (cells_words p) ≡ Some p
unfolding cells_in
cells_again p h =
    number_again 0 most p.0 _ _ p (lit≤ tt) (omega arith) h.0
    (number_again 0 most p.1 _ _ p (lit≤ tt) (omega arith) h.1 refl)

abbrev pub nodes_words : ℕ → List (List ℕ)
nodes_words n = codes "nodes" ∷ decimal n ∷ []

pub nodes_found : (ws : List (List ℕ)) (n : ℕ)
    → named_in (codes "nodes") (whole_in 0 most) ws ≡ Some n → IsRead nodes_words IsCount ws n
nodes_found ws n e =
    let found = named_found (codes "nodes") (whole_in 0 most) ws n e in
    let is = whole_found 0 most found.0 n found.2 in
    record { valid = is.below; same = found.1 ∙ ap (λ w. codes "nodes" ∷ w ∷ []) is.spelled }

pub nodes_again : (n : ℕ) → IsCount n
    → named_in (codes "nodes") (whole_in 0 most) (nodes_words n) ≡ Some n
nodes_again n h =
    named_again (codes "nodes") (whole_in 0 most) (decimal n) n
    (whole_again 0 most (decimal n) n (lit≤ tt)
    record { above = omega arith; below = h; spelled = refl })

abbrev pub hash_words : List ℕ → List ℕ → List (List ℕ)
hash_words name hash = name ∷ encode_lower hash ∷ []

pub hash_line_found : (name : List ℕ) (ws : List (List ℕ)) (hash : List ℕ)
    → named_in name hash_in ws ≡ Some hash → IsRead (hash_words name) IsHash ws hash
hash_line_found name ws hash e =
    let found = named_found name hash_in ws hash e in
    record {
      valid = hash_is found.0 hash found.2;
      same = found.1
          ∙ ap (λ w. name ∷ w ∷ []) (hash_found found.0 hash found.2);
    }

pub hash_line_again : (name hash : List ℕ) → IsHash hash
    → named_in name hash_in (hash_words name hash) ≡ Some hash
hash_line_again name hash h =
    named_again name hash_in (encode_lower hash) hash (hash_again (encode_lower hash) hash h refl)
