-- The canonical forest, tree by tree.
use Rattle.std.proofs.Common.{◌≡◌, ◌≤◌, ◌+◌, ℕ, zero, suc, true, cond, List, [], ◌∷◌, ◌++◌, length}
use Rattle.std.proofs.Common.{take, Option, None, Some, refl, sym, ap, subst, ◌∙◌, inl, inr, arith}
use Rattle.std.proofs.Common.{append_assoc}
use Rattle.std.proofs.lemmas.List.Sums.{sum_by-cons, sum_by-append}
use Rattle.std.specs.Prelude.{flat_map, slice_get, option_map}
use Rattle.std.specs.List.{enumerate_from}
use Rattle.ldp_design.specs.declared.family.Family.{Family}
use Rattle.ldp_design.specs.declared.design_box.DesignBox.{DesignBox}
use Rattle.ldp_design.specs.declared.node.Node.{Node}
use Rattle.ldp_design.specs.declared.node.Node.TheVariants.{Tree}
use Rattle.ldp_design.specs.Families.{AreGrids, family_of}
use Rattle.ldp_design.specs.Boxes.{LiesIn, whole_box, whole_of}
use Rattle.ldp_design.specs.Laws.{IsWhole}
use Rattle.ldp_design.specs.Forests.{node_count, is_node, is_shaped}
use Rattle.ldp_design.specs.Shapes.{IsForest, none, grown}
use Rattle.ldp_design.proofs.Shapes.{shapes_are_forests}
use Rattle.ldp_design.proofs.Wholes.{wholes_hold}
use Rattle.ldp_problem.specs.Problem.{Problem}
use Rattle.ldp_optimum.specs.Best.{least}
use Rattle.ldp_optimum.specs.Forest.{tree_of, family_tree, first_trees, forest, needed}
use Rattle.ldp_optimum.proofs.Members.{Member, of_enumerate}
use Rattle.ldp_optimum.proofs.Trees.{trees_are_trees, complete}

same_numbered : (m n : ℕ) (f g : Family) → m ≡ n → f ≡ g → ◌≡◌ {A = ℕ × Family} (m, f) (n, g)
same_numbered m n f g e h = cc

-- the family after so many of them, under a number
abbrev Continues : ℕ → List (ℕ × Family) → Family → ℕ → Type 0
Continues k qs f number = take (suc k) qs ≡ take k qs ++ (number, f) ∷ []

-- one more of the numbered families
take_numbered : (n k : ℕ) (fs : List Family) (f : Family) → slice_get fs k ≡ Some f
    → take (suc k) (enumerate_from n fs) ≡ take k (enumerate_from n fs) ++ (n + k, f) ∷ []
take_numbered n k [] f e = absurd cc
take_numbered n zero (g ∷ fs) f e =
    let number : n ≡ n + 0 = omega arith in
    let family : g ≡ f = cc in
    ap (λ q. q ∷ []) (same_numbered n (n + 0) g f number family)
take_numbered n (suc k) (g ∷ fs) f e =
    let number : n + 1 + k ≡ n + suc k = omega arith in
    let later : take (suc k) (enumerate_from (n + 1) fs)
    ≡ take k (enumerate_from (n + 1) fs) ++ (n + suc k, f) ∷ [] =
    subst (Continues k (enumerate_from (n + 1) fs) f) number (take_numbered (n + 1) k fs f e) in
    ap (λ qs. (n, g) ∷ qs) later

trees_append : (p : Problem) (qs rs : List (ℕ × Family))
    → flat_map (family_tree p) (qs ++ rs)
    ≡ flat_map (family_tree p) qs ++ flat_map (family_tree p) rs
trees_append p [] rs = refl
trees_append p (q ∷ qs) rs =
    ap (λ rest. family_tree p q ++ rest) (trees_append p qs rs)
    ∙ sym (append_assoc (family_tree p q) (flat_map (family_tree p) qs)
    (flat_map (family_tree p) rs))

append_nil : (xs : List Node) → xs ++ [] ≡ xs
append_nil [] = refl
append_nil (x ∷ xs) = ap (λ ys. x ∷ ys) (append_nil xs)

-- the whole of a family is that of the family that stands at its place
record HasWhole (p : Problem) (count : ℕ) (whole : DesignBox) : Type 0 where
  family : Family
  stands : slice_get p.families count ≡ Some family
  is : whole_box (suc count) family ≡ whole

has_whole : (p : Problem) (count : ℕ) (whole : DesignBox)
    → whole_of p.families (suc count) ≡ Some whole
    → HasWhole p count whole
has_whole p count whole e = by_family (slice_get p.families count) refl e
  where
    by_family : (o : Option Family) → slice_get p.families count ≡ o
        → option_map (whole_box (suc count)) o ≡ Some whole
        → HasWhole p count whole
    by_family None h k = absurd cc
    by_family (Some f) h k = record { family = f; stands = h; is = cc }

pub next_tree : (p : Problem) (count : ℕ) (whole : DesignBox)
    → whole_of p.families (suc count) ≡ Some whole
    → first_trees p (suc count)
    ≡ first_trees p count ++ Tree (suc count) ∷ tree_of p (least p) whole
next_tree p count whole e =
    let has = has_whole p count whole e in
    let number : 1 + count ≡ suc count = omega arith in
    ap (flat_map (family_tree p)) (take_numbered 1 count p.families has.family has.stands)
    ∙ trees_append p (take count (enumerate_from 1 p.families)) ((1 + count, has.family) ∷ [])
    ∙ ap (λ nodes. first_trees p count ++ nodes)
    (append_nil (family_tree p (1 + count, has.family)))
    ∙ ap (λ n. first_trees p count ++ family_tree p (n, has.family)) number
    ∙ ap (λ b. first_trees p count ++ Tree (suc count) ∷ tree_of p (least p) b) has.is

pub nodes_append : (xs ys : List Node) → node_count (xs ++ ys) ≡ node_count xs + node_count ys
nodes_append xs ys = sum_by-append (λ x. cond (is_node x) 1 0) xs ys

pub nodes_tree : (number : ℕ) (xs : List Node) → node_count (Tree number ∷ xs) ≡ node_count xs
nodes_tree number xs = omega (arith, sum_by-cons (λ x. cond (is_node x) 1 0) (Tree number) xs)

pub next_tree_counts : (p : Problem) (count : ℕ) (whole : DesignBox)
    → whole_of p.families (suc count) ≡ Some whole
    → node_count (first_trees p (suc count))
    ≡ node_count (first_trees p count) + node_count (tree_of p (least p) whole)
next_tree_counts p count whole e =
    ap node_count (next_tree p count whole e)
    ∙ nodes_append (first_trees p count) (Tree (suc count) ∷ tree_of p (least p) whole)
    ∙ ap (λ n. node_count (first_trees p count) + n)
    (nodes_tree (suc count) (tree_of p (least p) whole))

take_whole : (n : ℕ) (fs : List Family)
    → take (length fs) (enumerate_from n fs) ≡ enumerate_from n fs
take_whole n [] = refl
take_whole n (f ∷ fs) = ap (λ rest. (n, f) ∷ rest) (take_whole (n + 1) fs)

pub all_trees : (p : Problem) → first_trees p (length p.families) ≡ forest p
unfolding forest
all_trees p = ap (flat_map (family_tree p)) (take_whole 1 p.families)

fewer : (p : Problem) (count : ℕ) (qs : List (ℕ × Family))
    → node_count (flat_map (family_tree p) (take count qs))
    ≤ node_count (flat_map (family_tree p) qs)
fewer p zero qs = omega arith
fewer p (suc count) [] = omega arith
fewer p (suc count) (q ∷ qs) =
    omega (
      arith,
      fewer p count qs,
      nodes_append (family_tree p q) (flat_map (family_tree p) (take count qs)),
      nodes_append (family_tree p q) (flat_map (family_tree p) qs),
    )

pub first_trees_count : (p : Problem) (count : ℕ) → node_count (first_trees p count) ≤ needed p
unfolding forest
first_trees_count p count = fewer p count (enumerate_from 1 p.families)

-- the whole of each numbered family lies in it
AreWholes : Problem → List (ℕ × Family) → Type 0
AreWholes p qs = (q : ℕ × Family) → Member q qs → LiesIn p.families (whole_box q.0 q.1)

pub numbered_whole : (p : Problem) (q : ℕ × Family) → AreGrids p.families
    → Member q (enumerate_from 1 p.families)
    → IsWhole p.families q.0 (whole_box q.0 q.1)
numbered_whole p q g m =
    let at = of_enumerate 1 q p.families m in
    let number : suc at.place ≡ q.0 = omega (arith, at.number) in
    wholes_hold p.families q.0 (whole_box q.0 q.1) g
    (subst (λ n. option_map (whole_box q.0) (family_of p.families n) ≡ Some (whole_box q.0 q.1))
    number
    (ap (option_map (whole_box q.0)) at.stands))

wholes_lie : (p : Problem) → AreGrids p.families → AreWholes p (enumerate_from 1 p.families)
unfolding AreWholes
wholes_lie p g q m = (numbered_whole p q g m).lies

grown_forest : (p : Problem) (qs : List (ℕ × Family)) → AreGrids p.families → AreWholes p qs
    → IsForest (flat_map (family_tree p) qs)
unfolding AreWholes
grown_forest p [] g h = none
grown_forest p (q ∷ qs) g h =
    grown q.0 (tree_of p (least p) (whole_box q.0 q.1)) (flat_map (family_tree p) qs)
    (complete p (least p) (whole_box q.0 q.1) _
    (trees_are_trees p (least p) (whole_box q.0 q.1) g (h q (inl refl))))
    (grown_forest p qs g (λ r m. h r (inr m)))

pub forest_is_shaped : (p : Problem) → AreGrids p.families → is_shaped (forest p) 0 ≡ true
unfolding forest
forest_is_shaped p g =
    (shapes_are_forests (flat_map (family_tree p) (enumerate_from 1 p.families))).1
    (grown_forest p (enumerate_from 1 p.families) g (wholes_lie p g))
