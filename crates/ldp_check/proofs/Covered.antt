-- Where no entry has a fault, each usable design has at least the printed cost.
use Rattle.std.proofs.Common.{◌≡◌, ◌<◌, ◌≤◌, ◌+◌, ℕ, zero, suc, true, List, [], ◌∷◌, length, get_or}
use Rattle.std.proofs.Common.{Option, Some, None, refl, ◌⊎◌, inl, inr, arith, rules}
use Rattle.std.specs.Prelude.{IsSome}
use Rattle.std.proofs.lemmas.Bool.{cases_lt}
use Rattle.std.proofs.lemmas.List.Elements.{All-nil, All-cons, All-head, All-tail}
use Rattle.std.proofs.lemmas.Option.{slice_get_within, slice_get-get_or}
use Rattle.ldp_design.specs.declared.family.Family.{Family}
use Rattle.ldp_design.specs.declared.design.Design.{Design}
use Rattle.ldp_design.specs.declared.design_box.DesignBox.{DesignBox}
use Rattle.ldp_design.specs.declared.node.Node.{Node}
use Rattle.ldp_design.specs.declared.node.Node.TheVariants.{Tree, Split, Leaf, Unusable}
use Rattle.ldp_design.specs.Families.{AreGrids, family_of}
use Rattle.ldp_design.specs.Designs.{IsAdmitted}
use Rattle.ldp_design.specs.Boxes.{LiesIn, IsIn, whole_box, first_of}
use Rattle.ldp_design.specs.Laws.{AllLieIn, IsWhole, AreParts}
use Rattle.ldp_design.specs.Splits.{parts_at}
use Rattle.ldp_design.specs.Forests.{is_shaped}
use Rattle.ldp_design.proofs.Wholes.{wholes_hold, singles_have_one}
use Rattle.ldp_design.proofs.Cuts.{cuts_part}
use Rattle.ldp_problem.specs.declared.pair.Pair.{Pair}
use Rattle.ldp_problem.specs.Problem.{Problem, IsSound}
use Rattle.ldp_problem.specs.Pairs.{AtMost}
use Rattle.ldp_problem.specs.Costs.{IsUsable, cost}
use Rattle.ldp_problem.proofs.Facts.{leaf_below}
use Rattle.ldp_check.specs.Entries.{first_fault, missing_fault, leaf_fault, leaf_pair, open_fault}
use Rattle.ldp_check.proofs.Faults.{both_none, fails, tree_in_place, is_cut, leaf_closed}
use Rattle.ldp_check.proofs.Faults.{IsUnusable, unusable_is, all_begun}
use Rattle.ldp_problem.proofs.Pairs.{at_most_trans}
use Rattle.ldp_check.proofs.Pairs.{at_most_values}

-- a design of one of the boxes to come
abbrev InSome : Design → List DesignBox → Type 0
InSome d [] = ⊥
InSome d (b ∷ boxes) = IsIn d b ⊎ InSome d boxes

-- without a tolerance no cells are printed
abbrev pub CountsNone : Problem → Pair → Type 0
CountsNone p w = p.tolerance ≡ None → w.over ≡ 0

closed_by : (tolerance : Option ℕ) (w shown : Pair) (line : ℕ)
    → (tolerance ≡ None → (w.over ≡ 0) × (shown.over ≡ 0))
    → open_fault tolerance w line shown ≡ None → AtMost w shown
closed_by None w shown line none e =
    at_most_values w shown (none refl).0 (none refl).1 (fails _ _ e)
closed_by (Some tolerance) w shown line none e = fails _ _ e

-- no cells are counted without a tolerance
counts_none : (p : Problem) (b : DesignBox) (cell : ℕ) → p.tolerance ≡ None
    → (leaf_pair p b cell).over ≡ 0
counts_none p b cell e = rw e refl

leaf_covers : (p : Problem) (w : Pair) (line cell : ℕ) (b : DesignBox) (d : Design) → IsSound p
    → CountsNone p w
    → leaf_fault p w line cell b ≡ None → LiesIn p.families b → IsIn d b → IsUsable p d
    → AtMost w (cost p d)
leaf_covers p w line cell b d sound counts none lies inside usable =
    let h = leaf_closed p w line cell b none in
    let shown : AtMost w (leaf_pair p b cell) =
    closed_by p.tolerance w (leaf_pair p b cell) line (λ e. (counts e, counts_none p b cell e))
    h.1 in
    at_most_trans w (leaf_pair p b cell) (cost p d) shown
    (leaf_below p b d cell sound lies inside usable h.0)

never_both : (o : Option ℕ) → o ≡ None → IsSome o → ⊥
never_both None e h = search rules
never_both (Some v) e h = cc

unusable_has_none : (p : Problem) (cell : ℕ) (b : DesignBox) (d : Design) → IsUnusable p cell b
    → IsIn d b → IsUsable p d → ⊥
unusable_has_none p cell b d h inside usable =
    let same : d ≡ first_of b = (singles_have_one b d h.single inside).0 in
    let undefined : p.delta d cell ≡ None = rw same h.undefined in
    never_both (p.delta d cell) undefined (usable cell h.within)

-- an admissible design has a family
pub known : (families : List Family) (number : ℕ) (f : Family) → family_of families number ≡ Some f
    → (0 < number) × (number ≤ length families)
known families zero f e = absurd cc
known families (suc k) f e =
    let h : k < length families = slice_get_within families k f e in (omega arith, omega arith)

split_cases : (d : Design) (low high : DesignBox) (boxes : List DesignBox)
    → IsIn d low ⊎ IsIn d high
    → InSome d (low ∷ high ∷ boxes)
split_cases d low high boxes (inl h) = inl h
split_cases d low high boxes (inr h) = inr (inl h)

family_found : (families : List Family) (number trees : ℕ) (default : Family) → number ≡ suc trees
    → number ≤ length families
    → family_of families number ≡ Some (get_or families trees default)
family_found families number trees default e h =
    rw e (slice_get-get_or families trees default (omega arith))

-- where a design may still be met: in a tree that has not begun, or in a box to come
abbrev Ahead : Design → ℕ → List DesignBox → Type 0
Ahead d trees boxes = (trees < d.family) ⊎ InSome d boxes

in_next : {C : Type 0} (d : Design) (trees : ℕ) (b : DesignBox) (boxes : List DesignBox)
    → Ahead d trees (b ∷ boxes)
    → (IsIn d b → C) → (Ahead d trees boxes → C) → C
in_next d trees b boxes (inl later) here past = past (inl later)
in_next d trees b boxes (inr (inl inside)) here past = here inside
in_next d trees b boxes (inr (inr other)) here past = past (inr other)

in_parts : (d : Design) (trees : ℕ) (b low high : DesignBox) (boxes : List DesignBox)
    → (IsIn d b → IsIn d low ⊎ IsIn d high)
    → Ahead d trees (b ∷ boxes) → Ahead d trees (low ∷ high ∷ boxes)
in_parts d trees b low high boxes parts (inl later) = inl later
in_parts d trees b low high boxes parts (inr (inl inside)) =
    inr (split_cases d low high boxes (parts inside))
in_parts d trees b low high boxes parts (inr (inr other)) = inr (inr (inr other))

in_whole : (families : List Family) (d : Design) (trees number : ℕ) (whole : DesignBox)
    → IsAdmitted families d
    → IsWhole families number whole → number ≡ suc trees → Ahead d trees []
    → Ahead d (suc trees) (whole ∷ [])
in_whole families d trees number whole admitted is e (inr none) = absurd none
in_whole families d trees number whole admitted is e (inl later) =
    by_number (cases_lt (suc trees) d.family)
  where
    by_number : (suc trees < d.family) ⊎ (d.family ≤ suc trees) → Ahead d (suc trees) (whole ∷ [])
    by_number (inl more) = inl more
    by_number (inr last) = inr (inl (is.holds d admitted (omega (arith, later, last, e))))

module _ (p : Problem) (w : Pair) (sound : IsSound p) (grids : AreGrids p.families)
    (counts : CountsNone p w)
    (d : Design) (admitted : IsAdmitted p.families d) (usable : IsUsable p d) where
  ended : (trees : ℕ) → missing_fault p.families trees ≡ None → Ahead d trees []
      → AtMost w (cost p d)
  ended trees none (inl later) =
      let begun = all_begun p.families trees none in
      let has = known p.families d.family admitted.family admitted.found in
      absurd (omega (arith, begun, has.1, later))
  ended trees none (inr other) = absurd other

  pub covered : (entries : List Node) (line trees : ℕ) (boxes : List DesignBox)
      → AllLieIn p.families boxes
      → is_shaped entries (length boxes) ≡ true
      → first_fault p w line entries (record { trees = trees; boxes = boxes }) ≡ None
      → Ahead d trees boxes → AtMost w (cost p d)
  covered [] line trees [] lies shape none ahead = ended trees none ahead
  covered [] line trees (b ∷ boxes) lies shape none ahead = absurd cc
  covered (Tree number ∷ entries) line trees (b ∷ boxes) lies shape none ahead = absurd cc
  covered (Tree number ∷ entries) line trees [] lies shape none ahead =
      let both = both_none _ _ none in
      let is = tree_in_place p.families line number trees both.0 in
      let f : Family = get_or p.families trees admitted.family in
      let found : family_of p.families number ≡ Some f =
      family_found p.families number trees admitted.family is.0 is.1 in
      let whole : IsWhole p.families number (whole_box number f) =
      wholes_hold p.families number (whole_box number f) grids (rw found refl) in
      covered entries (line + 1) (suc trees) (whole_box number f ∷ [])
      (All-cons (LiesIn p.families) (whole_box number f) [] whole.lies
      (All-nil (LiesIn p.families)))
      shape (rw found at both.1) (in_whole p.families d trees number (whole_box number f) admitted
      whole is.0 ahead)
  covered (Split axis cut ∷ entries) line trees [] lies shape none ahead = absurd cc
  covered (Split axis cut ∷ entries) line trees (b ∷ boxes) lies shape none ahead =
      let both = both_none _ _ none in
      let parts : AreParts p.families b (parts_at axis cut b).0 (parts_at axis cut b).1 =
      cuts_part p.families b axis cut (All-head (LiesIn p.families) b boxes lies)
      (is_cut line axis cut b both.0) in
      covered entries (line + 1) trees ((parts_at axis cut b).0 ∷ (parts_at axis cut b).1 ∷ boxes)
      (All-cons (LiesIn p.families) (parts_at axis cut b).0 ((parts_at axis cut b).1 ∷ boxes)
      parts.low_lies
      (All-cons (LiesIn p.families) (parts_at axis cut b).1 boxes parts.high_lies
      (All-tail (LiesIn p.families) b boxes lies)))
      shape both.1 (in_parts d trees b (parts_at axis cut b).0 (parts_at axis cut b).1 boxes
      (parts.covered d) ahead)
  covered (Leaf cell ∷ entries) line trees [] lies shape none ahead = absurd cc
  covered (Leaf cell ∷ entries) line trees (b ∷ boxes) lies shape none ahead =
      let both = both_none _ _ none in
      in_next d trees b boxes ahead
      (λ inside. leaf_covers p w line cell b d sound counts both.0
      (All-head (LiesIn p.families) b boxes lies) inside usable)
      (λ past. covered entries (line + 1) trees boxes (All-tail (LiesIn p.families) b boxes lies)
      shape both.1 past)
  covered (Unusable cell ∷ entries) line trees [] lies shape none ahead = absurd cc
  covered (Unusable cell ∷ entries) line trees (b ∷ boxes) lies shape none ahead =
      let both = both_none _ _ none in
      in_next d trees b boxes ahead
      (λ inside. absurd (unusable_has_none p cell b d (unusable_is p line cell b both.0) inside
      usable))
      (λ past. covered entries (line + 1) trees boxes (All-tail (LiesIn p.families) b boxes lies)
      shape both.1 past)
