-- The tree of a box.
use Rattle.std.proofs.Common.{◌≡◌, ◌≤◌, ◌<◌, ◌+◌, ◌*◌, ℕ, zero, suc, Bool, true, false, cond, ◌||◌}
use Rattle.std.proofs.Common.{List, [], ◌∷◌, ◌++◌, Option, None, Some, refl, sym, ap}
use Rattle.std.proofs.Common.{subst, ◌∙◌, arith}
use Rattle.std.proofs.Math.Nat.{mul-pos}
use Rattle.std.proofs.lemmas.List.Sums.{sum_by-cons, sum_by-append}
use Rattle.ldp_design.specs.declared.axis.AxisName.{AxisName}
use Rattle.ldp_design.specs.declared.family.Family.{Family}
use Rattle.ldp_design.specs.declared.design_box.DesignBox.{DesignBox}
use Rattle.ldp_design.specs.declared.node.Node.{Node}
use Rattle.ldp_design.specs.declared.node.Node.TheVariants.{Split, Leaf, Unusable}
use Rattle.ldp_design.specs.Families.{AreGrids}
use Rattle.ldp_design.specs.Measures.{widest}
use Rattle.std.specs.Prelude.{option_and_then}
use Rattle.ldp_design.specs.Boxes.{is_single, size, LiesIn, first_of}
use Rattle.ldp_design.specs.Splits.{family_cut, middle, cut_for, parts_at}
use Rattle.ldp_design.specs.Laws.{AreParts}
use Rattle.ldp_design.specs.Forests.{node_count, is_node}
use Rattle.ldp_design.specs.Shapes.{IsTree, closed, undefined, parted}
use Rattle.ldp_design.proofs.Cuts.{cuts_part}
use Rattle.ldp_design.proofs.Splits.{splits_cut}
use Rattle.ldp_problem.specs.declared.pair.Pair.{Pair}
use Rattle.ldp_problem.specs.Problem.{Problem}
use Rattle.ldp_problem.specs.Costs.{bound, bound_cell, unusable_at, first_undefined}
use Rattle.ldp_optimum.specs.Trees as trees
use Rattle.ldp_optimum.specs.Trees.{IsTreeOf}
use Rattle.ldp_optimum.specs.Forest.{is_above, end_node, end_of, grown, tree_within, tree_of}

pub some_size : (b : DesignBox) → 0 < size b
unfolding size
some_size b = mul-pos (mul-pos (mul-pos (omega arith) (omega arith)) (omega arith)) (omega arith)

-- what is known of the parts of a box that is split
pub parts_of : (families : List Family) (b : DesignBox) (axis : AxisName) (at : ℕ)
    → AreGrids families
    → LiesIn families b → cut_for families b ≡ Some (axis, at)
    → AreParts families b (parts_at axis at b).0 (parts_at axis at b).1
parts_of families b axis at g h e =
    cuts_part families b axis at h (splits_cut families b axis at g h e)

grown_same : (o : Option Node) (cut : Option (AxisName × ℕ)) (b : DesignBox)
    (f g : DesignBox → List Node)
    → ((axis : AxisName) (at : ℕ) → cut ≡ Some (axis, at)
    → (f (parts_at axis at b).0 ≡ g (parts_at axis at b).0)
    × (f (parts_at axis at b).1 ≡ g (parts_at axis at b).1))
    → grown o cut b f ≡ grown o cut b g
grown_same (Some node) cut b f g same = refl
grown_same None None b f g same = refl
grown_same None (Some (axis, at)) b f g same =
    let both = same axis at refl in
    ap (λ low. Split axis at ∷ (low ++ f (parts_at axis at b).1)) both.0
    ∙ ap (λ high. Split axis at ∷ (g (parts_at axis at b).0 ++ high)) both.1

-- any two limits that are not below the size give one tree
within_same : (p : Problem) (w : Option Pair) → AreGrids p.families → (m n : ℕ) (b : DesignBox)
    → LiesIn p.families b → size b ≤ m → size b ≤ n → tree_within p w m b ≡ tree_within p w n b
within_same p w g zero n b h i j = absurd (omega (arith, some_size b))
within_same p w g (suc m) zero b h i j = absurd (omega (arith, some_size b))
within_same p w g (suc m) (suc n) b h i j =
    grown_same (end_of p w b) (cut_for p.families b) b (tree_within p w m) (tree_within p w n)
    (λ axis at e.
    let parts = parts_of p.families b axis at g h e in (
      within_same p w g m n (parts_at axis at b).0 parts.low_lies
          (omega (arith, parts.low_smaller)) (omega (arith, parts.low_smaller)),
      within_same p w g m n (parts_at axis at b).1 parts.high_lies
          (omega (arith, parts.high_smaller)) (omega (arith, parts.high_smaller)),
    ))

whole_within : (p : Problem) (w : Option Pair) (n : ℕ) (b : DesignBox) → AreGrids p.families
    → LiesIn p.families b → size b ≤ n → tree_within p w n b ≡ tree_of p w b
unfolding tree_of
whole_within p w n b g h i = within_same p w g n (size b) b h i (omega arith)

ended : (p : Problem) (w : Option Pair) (n : ℕ) (b : DesignBox) (node : Node) → 0 < n
    → end_of p w b ≡ Some node → tree_within p w n b ≡ node ∷ []
ended p w zero b node h e = absurd (omega arith)
ended p w (suc n) b node h e = ap (λ o. grown o (cut_for p.families b) b (tree_within p w n)) e

pub tree_unusable : (p : Problem) (w : Option Pair) (b : DesignBox) (cell : ℕ)
    → unusable_at p b ≡ Some cell → tree_of p w b ≡ Unusable cell ∷ []
unfolding tree_of
tree_unusable p w b cell e =
    ended p w (size b) b (Unusable cell) (some_size b)
    (ap (λ o. end_node o (is_single b || is_above (bound p b) w) (bound_cell p b)) e)

pub tree_closed : (p : Problem) (w : Option Pair) (b : DesignBox) → unusable_at p b ≡ None
    → (is_single b || is_above (bound p b) w) ≡ true → tree_of p w b ≡ Leaf (bound_cell p b) ∷ []
unfolding tree_of
tree_closed p w b e t =
    ended p w (size b) b (Leaf (bound_cell p b)) (some_size b)
    (ap (λ o. end_node o (is_single b || is_above (bound p b) w) (bound_cell p b)) e
    ∙ ap (λ c. end_node None c (bound_cell p b)) t)

-- a single is not cut, and any other box is
cut_by : (families : List Family) (b : DesignBox) (t : Bool) (h : LiesIn families b)
    → is_single b ≡ t
    → cut_for families b
    ≡ cond t None (Some (widest h.family b, middle (widest h.family b) b))
unfolding family_cut
cut_by families b t h e =
    ap (option_and_then (λ f. family_cut f b)) h.found
    ∙ ap (λ u. cond {A = Option (AxisName × ℕ)} u None
    (Some (widest h.family b, middle (widest h.family b) b))) e

-- a box that is split is no single
pub no_single : (families : List Family) (b : DesignBox) (cut : AxisName × ℕ) → LiesIn families b
    → cut_for families b ≡ Some cut → is_single b ≡ false
no_single families b cut h e = by_test (is_single b) refl
  where
    by_test : (t : Bool) → is_single b ≡ t → is_single b ≡ false
    by_test true s =
        let none : cut_for families b ≡ None = cut_by families b true h s in
        absurd cc
    by_test false s = s

usable_many : (p : Problem) (b : DesignBox) → is_single b ≡ false → unusable_at p b ≡ None
usable_many p b s = ap (λ t. cond {A = Option ℕ} t (first_undefined p (first_of b)) None) s

pub split_open : (p : Problem) (w : Option Pair) (b : DesignBox) → is_single b ≡ false
    → is_above (bound p b) w ≡ false → end_of p w b ≡ None
split_open p w b s a =
    ap (λ o. end_node o (is_single b || is_above (bound p b) w) (bound_cell p b))
    (usable_many p b s)
    ∙ ap (λ t. end_node None (t || is_above (bound p b) w) (bound_cell p b)) s
    ∙ ap (λ t. end_node None (false || t) (bound_cell p b)) a

split_within : (p : Problem) (w : Option Pair) (n : ℕ) (b : DesignBox) (axis : AxisName) (at : ℕ)
    → AreGrids p.families → LiesIn p.families b → size b ≤ n → end_of p w b ≡ None
    → cut_for p.families b ≡ Some (axis, at)
    → tree_within p w n b
    ≡ Split axis at ∷ (tree_of p w (parts_at axis at b).0 ++ tree_of p w (parts_at axis at b).1)
split_within p w zero b axis at g h i e c = absurd (omega (arith, some_size b))
split_within p w (suc n) b axis at g h i e c =
    let parts = parts_of p.families b axis at g h c in
    ap (λ o. grown o (cut_for p.families b) b (tree_within p w n)) e
    ∙ ap (λ o. grown None o b (tree_within p w n)) c
    ∙ ap (λ low. Split axis at ∷ (low ++ tree_within p w n (parts_at axis at b).1))
    (whole_within p w n (parts_at axis at b).0 g parts.low_lies (omega (arith, parts.low_smaller)))
    ∙ ap (λ high. Split axis at ∷ (tree_of p w (parts_at axis at b).0 ++ high))
    (whole_within p w n (parts_at axis at b).1 g parts.high_lies
    (omega (arith, parts.high_smaller)))

pub tree_split : (p : Problem) (w : Option Pair) (b : DesignBox) (axis : AxisName) (at : ℕ)
    → AreGrids p.families → LiesIn p.families b → is_above (bound p b) w ≡ false
    → cut_for p.families b ≡ Some (axis, at)
    → tree_of p w b
    ≡ Split axis at ∷ (tree_of p w (parts_at axis at b).0 ++ tree_of p w (parts_at axis at b).1)
tree_split p w b axis at g h a c =
    sym (whole_within p w (size b) b g h (omega arith))
    ∙ split_within p w (size b) b axis at g h (omega arith)
    (split_open p w b (no_single p.families b (axis, at) h c) a) c

-- a box either ends or is split
pub data Fate (p : Problem) (w : Option Pair) (b : DesignBox) : Type 0 where
  ends_undefined : (cell : ℕ) → unusable_at p b ≡ Some cell → Fate p w b
  ends_closed : unusable_at p b ≡ None → (is_single b || is_above (bound p b) w) ≡ true → Fate p w b
  splits : (axis : AxisName) (at : ℕ) → is_above (bound p b) w ≡ false
      → cut_for p.families b ≡ Some (axis, at) → Fate p w b

fate_open : (p : Problem) (w : Option Pair) (b : DesignBox) (cut : Option (AxisName × ℕ))
    → LiesIn p.families b → is_single b ≡ false → is_above (bound p b) w ≡ false
    → cut_for p.families b ≡ cut → Fate p w b
fate_open p w b None h s a c =
    let some : cut_for p.families b ≡ Some (widest h.family b, middle (widest h.family b) b) =
    cut_by p.families b false h s in
    absurd cc
fate_open p w b (Some (axis, at)) h s a c = splits axis at a c

pub fate : (p : Problem) (w : Option Pair) (b : DesignBox) → LiesIn p.families b → Fate p w b
fate p w b h = by_cell (unusable_at p b) refl
  where
    by_above : (s t : Bool) → is_single b ≡ s → is_above (bound p b) w ≡ t → unusable_at p b ≡ None
        → Fate p w b
    by_above true t d e n = ends_closed n (ap (λ x. x || is_above (bound p b) w) d)
    by_above false true d e n = ends_closed n (ap (λ x. x || is_above (bound p b) w) d ∙ e)
    by_above false false d e n = fate_open p w b (cut_for p.families b) h d e refl

    by_cell : (o : Option ℕ) → unusable_at p b ≡ o → Fate p w b
    by_cell (Some cell) e = ends_undefined cell e
    by_cell None e = by_above (is_single b) (is_above (bound p b) w) refl refl e

-- the tree of a box is as the grammar has it
tree_grown : (p : Problem) (w : Option Pair) (n : ℕ) (b : DesignBox) → AreGrids p.families
    → LiesIn p.families b → size b ≤ n → IsTreeOf p w b (tree_of p w b)
tree_grown p w zero b g h i = absurd (omega (arith, some_size b))
tree_grown p w (suc n) b g h i = by_fate p w n b g h i (fate p w b h) (tree_grown p w n)
  where
    by_fate : (p : Problem) (w : Option Pair) (n : ℕ) (b : DesignBox) → AreGrids p.families
        → LiesIn p.families b → size b ≤ suc n → Fate p w b
        → ((part : DesignBox) → AreGrids p.families → LiesIn p.families part → size part ≤ n
        → IsTreeOf p w part (tree_of p w part))
        → IsTreeOf p w b (tree_of p w b)
    by_fate p w n b g h i (ends_undefined cell u) grow =
        subst (IsTreeOf p w b) (sym (tree_unusable p w b cell u)) (trees.undefined b cell u)
    by_fate p w n b g h i (ends_closed u t) grow =
        subst (IsTreeOf p w b) (sym (tree_closed p w b u t)) (trees.closed b u t)
    by_fate p w n b g h i (splits axis at a c) grow =
        let parts = parts_of p.families b axis at g h c in
        subst (IsTreeOf p w b) (sym (tree_split p w b axis at g h a c))
        (trees.parted b axis at _ _ a c
        (grow (parts_at axis at b).0 g parts.low_lies (omega (arith, parts.low_smaller)))
        (grow (parts_at axis at b).1 g parts.high_lies (omega (arith, parts.high_smaller))))

pub trees_are_trees : (p : Problem) (w : Option Pair) (b : DesignBox) → AreGrids p.families
    → LiesIn p.families b → IsTreeOf p w b (tree_of p w b)
trees_are_trees p w b g h = tree_grown p w (size b) b g h (omega arith)

-- a tree for a cost is a complete tree
pub complete : (p : Problem) (w : Option Pair) (b : DesignBox) (nodes : List Node)
    → IsTreeOf p w b nodes → IsTree nodes
complete p w _ _ (trees.undefined b cell u) = undefined cell
complete p w _ _ (trees.closed b u t) = closed (bound_cell p b)
complete p w _ _ (trees.parted b axis at low high a c l h) =
    parted axis at low high (complete p w _ low l) (complete p w _ high h)

pub split_counts : (axis : AxisName) (at : ℕ) (low high : List Node)
    → node_count (Split axis at ∷ (low ++ high)) ≡ 1 + node_count low + node_count high
split_counts axis at low high =
    omega (
      arith,
      sum_by-cons (λ x. cond (is_node x) 1 0) (Split axis at) (low ++ high),
      sum_by-append (λ x. cond (is_node x) 1 0) low high,
    )

pub counted : (p : Problem) (w : Option Pair) (b : DesignBox) (nodes : List Node)
    → AreGrids p.families → LiesIn p.families b
    → IsTreeOf p w b nodes → (1 ≤ node_count nodes) × (node_count nodes + 1 ≤ 2 * size b)
counted p w _ _ g h (trees.undefined b cell u) = (omega arith, omega (arith, some_size b))
counted p w _ _ g h (trees.closed b u t) = (omega arith, omega (arith, some_size b))
counted p w _ _ g h (trees.parted b axis at low high a c l k) =
    let parts = parts_of p.families b axis at g h c in
    let first = counted p w (parts_at axis at b).0 low g parts.low_lies l in
    let second = counted p w (parts_at axis at b).1 high g parts.high_lies k in (
      omega (arith, split_counts axis at low high),
      omega (arith, split_counts axis at low high, first.1, second.1, parts.sizes),
    )

pub trees_have_nodes : (p : Problem) (w : Option Pair) (b : DesignBox) → AreGrids p.families
    → LiesIn p.families b
    → (1 ≤ node_count (tree_of p w b)) × (node_count (tree_of p w b) + 1 ≤ 2 * size b)
trees_have_nodes p w b g h = counted p w b (tree_of p w b) g h (trees_are_trees p w b g h)
