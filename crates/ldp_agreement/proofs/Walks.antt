-- A walk along the nodes of a box finds no fault in them.
use Rattle.std.proofs.Common.{◌≡◌, ◌+◌, ℕ, pos, Bool, true, false, cond, not, ◌&&◌, ◌||◌}
use Rattle.std.proofs.Common.{List, ◌∷◌, ◌++◌, append_assoc, Option, None, Some, refl, sym}
use Rattle.std.proofs.Common.{ap, subst, ◌∙◌, arith}
use Rattle.std.proofs.lemmas.Bool.Decides.{nat_tests}
use Rattle.std.proofs.lemmas.Bool.{lt-ltb, le-leb}
use Rattle.std.specs.Prelude.{is_none, nat_lt, nat_le}
use Rattle.std.specs.Bool.{then_some}
use Rattle.std.specs.Option.{option_or}
use Rattle.ldp_design.specs.declared.axis.AxisName.{AxisName}
use Rattle.ldp_design.specs.declared.design.Design.{Design}
use Rattle.ldp_design.specs.declared.design_box.DesignBox.{DesignBox}
use Rattle.ldp_design.specs.declared.node.Node.{Node}
use Rattle.ldp_design.specs.Families.{AreGrids}
use Rattle.ldp_design.specs.Designs.{IsAdmitted}
use Rattle.ldp_design.specs.Boxes.{span_of, is_single, LiesIn, first_of}
use Rattle.ldp_design.specs.Splits.{parts_at, IsCut}
use Rattle.ldp_design.proofs.Cuts.{cuts_part}
use Rattle.ldp_design.proofs.Splits.{splits_cut, singles_are_tested}
use Rattle.ldp_design.proofs.Wholes.{firsts_are_admitted}
use Rattle.ldp_problem.specs.declared.pair.Pair.{Pair}
use Rattle.ldp_problem.specs.Problem.{Problem, IsSound}
use Rattle.ldp_problem.specs.Pairs.{is_smaller, AtMost}
use Rattle.ldp_problem.specs.Costs.{IsUsable, first_undefined, cost, bound, bound_cell}
use Rattle.ldp_problem.specs.Costs.{unusable_at, beyond, lows}
use Rattle.ldp_problem.proofs.Facts.{none_undefined, first_undefined_is, single_exact}
use Rattle.ldp_problem.proofs.Facts.{bound_at_cell}
use Rattle.ldp_optimum.specs.Forest.{is_above}
use Rattle.ldp_optimum.specs.Trees.{IsTreeOf, undefined, closed, parted}
use Rattle.ldp_check.specs.declared.reason.Reason.{Reason}
use Rattle.ldp_check.specs.declared.reason.Reason.TheVariants.{BadSplit, NoSuchCell, LeafOpen}
use Rattle.ldp_check.specs.declared.reason.Reason.TheVariants.{ShareOpen, NotUnusable}
use Rattle.ldp_check.specs.Entries.{split_fault, leaf_pair, open_fault, leaf_fault, unusable_fault}
use Rattle.ldp_check.specs.Entries.{first_fault}

-- no fault from this place on, whatever the line
unfoldable pub NoFault : Problem → Pair → List Node → ℕ → List DesignBox → Type 0
NoFault p w entries trees boxes =
    (line : ℕ) → first_fault p w line entries (record { trees = trees; boxes = boxes }) ≡ None

-- a cost that no usable admissible design undercuts, with no cell beyond where none is counted
pub record IsLeast (p : Problem) (w : Pair) : Type 0 where
  pub least : (d : Design) → IsAdmitted p.families d → IsUsable p d → AtMost w (cost p d)
  pub uncounted : p.tolerance ≡ None → w.over ≡ 0

-- the test of a single, by the two answers that a box may have
single_when : (p : Problem) (b : DesignBox) (cell : ℕ) → unusable_at p b ≡ Some cell
    → (is_single b ≡ true) × (first_undefined p (first_of b) ≡ Some cell)
single_when p b cell u = by_test (is_single b) refl u
  where
    by_test : (t : Bool) → is_single b ≡ t
        → cond {A = Option ℕ} t (first_undefined p (first_of b)) None ≡ Some cell
        → (is_single b ≡ true) × (first_undefined p (first_of b) ≡ Some cell)
    by_test true s e = (s, e)
    by_test false s e = absurd cc

usable_when : (p : Problem) (b : DesignBox) → is_single b ≡ true → unusable_at p b ≡ None
    → first_undefined p (first_of b) ≡ None
usable_when p b s u =
    sym (ap (λ t. cond {A = Option ℕ} t (first_undefined p (first_of b)) None) s) ∙ u

-- an entry `Unusable`
sound_unusable : (p : Problem) (w : Pair) (line cell : ℕ) (b : DesignBox)
    → unusable_at p b ≡ Some cell
    → unusable_fault p line cell b ≡ None
sound_unusable p w line cell b u =
    let single = single_when p b cell u in
    let found = first_undefined_is p (first_of b) cell single.1 in
    no_fault (nat_lt cell p.cells) (is_single b) (is_none (p.delta (first_of b) cell))
    (lt-ltb cell p.cells found.0) single.0 (ap is_none found.1)
  where
    no_fault : (s t u : Bool) → s ≡ true → t ≡ true → u ≡ true
        → cond s (then_some (not (t && u)) (NotUnusable line)) (Some (NoSuchCell line)) ≡ None
    no_fault s t u e f g = rw (e, f, g) refl

smaller_at_most : (a b : Pair) → is_smaller a b ≡ true → AtMost a b
smaller_at_most a b h = grind (arith, nat_tests)

-- a closed box shows at least the least cost
closed_shows : (p : Problem) (w : Pair) (b : DesignBox) → IsSound p → IsLeast p w
    → LiesIn p.families b
    → unusable_at p b ≡ None → (is_single b || is_above (bound p b) (Some w)) ≡ true
    → AtMost w (bound p b)
closed_shows p w b sound l h u t = by_test (is_single b) refl t
  where
    by_test : (s : Bool) → is_single b ≡ s → (s || is_above (bound p b) (Some w)) ≡ true
        → AtMost w (bound p b)
    by_test false s above = smaller_at_most w (bound p b) above
    by_test true s any =
        let same = single_exact p b sound h ((singles_are_tested b).0 s) in
        subst (AtMost w) (sym same.0)
        (l.least (first_of b) (firsts_are_admitted p.families b h)
        (none_undefined p (first_of b) (usable_when p b s u)))

-- an entry `Leaf` at the cell of the bound
not_open : (tolerance : Option ℕ) (w shown : Pair) (line : ℕ) → (tolerance ≡ None → w.over ≡ 0)
    → (tolerance ≡ None → shown.over ≡ 0) → AtMost w shown
    → open_fault tolerance w line shown ≡ None
not_open None w shown line e f h =
    no_fault (nat_lt shown.value w.value) (not_less w shown (e refl) (f refl) h)
  where
    not_less : (a b : Pair) → a.over ≡ 0 → b.over ≡ 0 → AtMost a b → nat_lt b.value a.value ≡ false
    not_less a b e f h = grind (arith, nat_tests)

    no_fault : (t : Bool) → t ≡ false → then_some t (LeafOpen line (pos shown.value)) ≡ None
    no_fault t e = rw e refl
not_open (Some t) w shown line e f h = no_fault (is_smaller shown w) h
  where
    no_fault : (t : Bool) → t ≡ false
        → then_some t (ShareOpen line shown.over (pos shown.value)) ≡ None
    no_fault t e = rw e refl

pub none_beyond : (tolerance : Option ℕ) (values : List ℕ) → tolerance ≡ None
    → beyond tolerance values ≡ 0
none_beyond None values e = refl
none_beyond (Some t) values e = absurd cc

sound_leaf : (p : Problem) (w : Pair) (line : ℕ) (b : DesignBox) → IsSound p → IsLeast p w
    → LiesIn p.families b
    → AtMost w (bound p b) → leaf_fault p w line (bound_cell p b) b ≡ None
sound_leaf p w line b sound l h most =
    let cell = bound_at_cell p b sound.some_cell in
    let shown : leaf_pair p b (bound_cell p b) ≡ bound p b =
    ap (λ v. record { over = beyond p.tolerance (lows p b); value = v }) cell.1 in
    ap (λ t. cond {A = Option Reason} t
    (open_fault p.tolerance w line (leaf_pair p b (bound_cell p b))) (Some (NoSuchCell line)))
    (lt-ltb (bound_cell p b) p.cells cell.0)
    ∙ not_open p.tolerance w (leaf_pair p b (bound_cell p b)) line l.uncounted
    (none_beyond p.tolerance (lows p b)) (subst (AtMost w) (sym shown) most)

-- an entry `Split`
sound_split : (line : ℕ) (axis : AxisName) (at : ℕ) (b : DesignBox) → IsCut axis at b
    → split_fault line axis at b ≡ None
sound_split line axis at b h =
    no_fault (nat_le (span_of axis b).lo at) (nat_lt at (span_of axis b).hi)
    (le-leb (span_of axis b).lo at h.low) (lt-ltb at (span_of axis b).hi h.high)
  where
    no_fault : (s t : Bool) → s ≡ true → t ≡ true → then_some (not (s && t)) (BadSplit line) ≡ None
    no_fault s t e f = rw (e, f) refl

pub first_none : {o q : Option Reason} → o ≡ None → q ≡ None → option_or o q ≡ None
first_none {o = o} {q = q} e f = rw (e, f) refl

-- the nodes of a box, and then the others
pub walked : (p : Problem) (w : Pair) (b : DesignBox) (nodes entries : List Node) (trees : ℕ)
    (boxes : List DesignBox)
    → IsSound p → AreGrids p.families → IsLeast p w → LiesIn p.families b
    → IsTreeOf p (Some w) b nodes
    → NoFault p w entries trees boxes → NoFault p w (nodes ++ entries) trees (b ∷ boxes)
unfolding NoFault
walked p w _ _ entries trees boxes sound g l h (undefined b cell u) later line =
    first_none (sound_unusable p w line cell b u) (later (line + 1))
walked p w _ _ entries trees boxes sound g l h (closed b u t) later line =
    first_none (sound_leaf p w line b sound l h (closed_shows p w b sound l h u t))
    (later (line + 1))
walked p w _ _ entries trees boxes sound g l h (parted b axis at low high a c i j) later line =
    let cut = splits_cut p.families b axis at g h c in
    let parts = cuts_part p.families b axis at h cut in
    first_none (sound_split line axis at b cut)
    (subst (λ ns. NoFault p w ns trees ((parts_at axis at b).0 ∷ (parts_at axis at b).1 ∷ boxes))
    (sym (append_assoc low high entries))
    (walked p w (parts_at axis at b).0 low (high ++ entries) trees ((parts_at axis at b).1 ∷ boxes)
    sound g l parts.low_lies i
    (walked p w (parts_at axis at b).1 high entries trees boxes sound g l parts.high_lies j later))
    (line + 1))
