-- What is written of the canonical forest.
use Rattle.std.proofs.Common.{◌≡◌, ◌+◌, ℕ, Bool, true, false, ◌||◌, List, [], ◌∷◌, ◌++◌, None, Some}
use Rattle.std.proofs.Common.{refl, sym, ap, subst, ◌∙◌, arith, append_assoc}
use Rattle.std.proofs.lemmas.List.Elements.{All-cons, All-head, All-tail}
use Rattle.std.proofs.lemmas.List.Sums.{sum_by-cons}
use Rattle.std.specs.Prelude.{ℤ, unsigned_abs}
use Rattle.ldp_design.specs.declared.axis.AxisName.{AxisName}
use Rattle.ldp_design.specs.declared.design_box.DesignBox.{DesignBox}
use Rattle.ldp_design.specs.declared.family.Family.{Family}
use Rattle.ldp_design.specs.declared.node.Node.{Node}
use Rattle.ldp_design.specs.declared.node.Node.TheVariants.{Split, Leaf, Unusable}
use Rattle.ldp_design.specs.Families.{AreGrids}
use Rattle.ldp_design.specs.Boxes.{LiesIn, is_single}
use Rattle.ldp_design.specs.Laws.{AllLieIn, AreParts}
use Rattle.ldp_design.specs.Splits.{cut_for, family_cut, parts_at}
use Rattle.ldp_design.proofs.Cuts.{cuts_part}
use Rattle.ldp_design.proofs.Splits.{splits_cut}
use Rattle.ldp_problem.specs.declared.pair.Pair.{Pair}
use Rattle.ldp_problem.specs.Problem.{Problem}
use Rattle.ldp_problem.specs.Pairs.{is_smaller}
use Rattle.ldp_problem.specs.Costs.{bound, bound_cell, unusable_at}
use Rattle.ldp_optimum.specs.Best.{least}
use Rattle.ldp_optimum.specs.Forest.{is_above, tree_of}
use Rattle.ldp_optimum.proofs.Trees.{tree_unusable, tree_closed, tree_split}
use Rattle.ldp_search.specs.Explored.{nodes_of, nodes_of_all}
use Rattle.ldp_search.specs.Written.{trees_of, IsOpen, Writes}
use Rattle.ldp_search.proofs.Bounds.{or_true}
use Rattle.ldp_search.proofs.Counts.{nodes_unusable, nodes_closed, nodes_split}
use Rattle.ldp_search.proofs.Singles.{IsLow, low_pair}

-- a box of one node is written
ended : (p : Problem) (b : DesignBox) (node : Node) (boxes : List DesignBox)
    (before after : List Node)
    → tree_of p (least p) b ≡ node ∷ [] → nodes_of p b ≡ 1 → after ≡ before ++ node ∷ []
    → Writes p b boxes boxes before after
ended p b node boxes before after tree one e = record {
  trees = rw (e, tree) (append_assoc before (node ∷ []) (trees_of p boxes));
  lies = λ all. all;
  nodes = omega (arith, one);
}

pub writes_unusable : (p : Problem) (b : DesignBox) (cell : ℕ) (boxes : List DesignBox)
    (before after : List Node)
    → unusable_at p b ≡ Some cell → after ≡ before ++ Unusable cell ∷ []
    → Writes p b boxes boxes before after
writes_unusable p b cell boxes before after u e =
    ended p b (Unusable cell) boxes before after (tree_unusable p (least p) b cell u)
    (nodes_unusable p b cell u) e

pub writes_closed : (p : Problem) (b : DesignBox) (cell : ℕ) (boxes : List DesignBox)
    (before after : List Node)
    → unusable_at p b ≡ None → (is_single b || is_above (bound p b) (least p)) ≡ true
    → cell ≡ bound_cell p b
    → after ≡ before ++ Leaf cell ∷ [] → Writes p b boxes boxes before after
writes_closed p b cell boxes before after u t at e =
    ended p b (Leaf cell) boxes before after
    (tree_closed p (least p) b u t ∙ ap (λ k. Leaf k ∷ []) (sym at)) (nodes_closed p b u t) e

pub writes_above : (p : Problem) (b : DesignBox) (cell : ℕ) (boxes : List DesignBox)
    (before after : List Node)
    → unusable_at p b ≡ None → is_above (bound p b) (least p) ≡ true → cell ≡ bound_cell p b
    → after ≡ before ++ Leaf cell ∷ [] → Writes p b boxes boxes before after
writes_above p b cell boxes before after u above at e =
    writes_closed p b cell boxes before after u (rw above (or_true (is_single b))) at e

-- a box that is not cut is a single
uncut_single : (families : List Family) (b : DesignBox) → LiesIn families b
    → cut_for families b ≡ None
    → is_single b ≡ true
unfolding family_cut
uncut_single families b lies e = by_test (is_single b) refl
  where
    by_test : (t : Bool) → is_single b ≡ t → is_single b ≡ true
    by_test true s = s
    by_test false s =
        let none : family_cut lies.family b ≡ None = rw lies.found at e in
        absurd (let cut = rw s at none in cc)

pub writes_single : (p : Problem) (b : DesignBox) (cell : ℕ) (boxes : List DesignBox)
    (before after : List Node)
    → LiesIn p.families b → IsOpen p b cell → cut_for p.families b ≡ None
    → after ≡ before ++ Leaf cell ∷ [] → Writes p b boxes boxes before after
writes_single p b cell boxes before after lies is uncut e =
    writes_closed p b cell boxes before after is.usable
    (ap (λ t. t || is_above (bound p b) (least p)) (uncut_single p.families b lies uncut)) is.at e

pub writes_split : (p : Problem) (b : DesignBox) (cell : ℕ) (axis : AxisName) (at : ℕ)
    (old new : List DesignBox)
    (before after : List Node) → AreGrids p.families → LiesIn p.families b → IsOpen p b cell
    → cut_for p.families b ≡ Some (axis, at)
    → new ≡ (parts_at axis at b).0 ∷ (parts_at axis at b).1 ∷ old
    → after ≡ before ++ Split axis at ∷ [] → Writes p b old new before after
writes_split p b cell axis at old new before after grids lies is cut e f = record {
  trees = rw (f, e, tree_split p (least p) b axis at grids lies is.below cut)
      (append_assoc before (Split axis at ∷ []) _
      ∙ ap (λ nodes. before ++ Split axis at ∷ nodes)
      (sym (append_assoc low high (trees_of p old))));
  lies = λ all. rw e (All-cons (LiesIn p.families) (parts_at axis at b).0
      ((parts_at axis at b).1 ∷ old) parts.low_lies
      (All-cons (LiesIn p.families) (parts_at axis at b).1 old parts.high_lies all));
  nodes = rw e (omega (
    arith,
    nodes_split p b axis at grids lies is.below cut,
    sum_by-cons (nodes_of p) (parts_at axis at b).0 ((parts_at axis at b).1 ∷ old),
    sum_by-cons (nodes_of p) (parts_at axis at b).1 old,
  ));
}
  where
    low : List Node
    low = tree_of p (least p) (parts_at axis at b).0

    high : List Node
    high = tree_of p (least p) (parts_at axis at b).1

    parts : AreParts p.families b (parts_at axis at b).0 (parts_at axis at b).1
    parts = cuts_part p.families b axis at lies (splits_cut p.families b axis at grids lies cut)

-- whether the bound of a box is above the least cost, as it is compared
pub above_shown : (p : Problem) (b : DesignBox) (over : ℕ) (value : ℤ) (cell : ℕ) (cost : Pair)
    (size : ℕ) (t : Bool)
    → IsLow p b over value cell → least p ≡ Some cost → size ≡ unsigned_abs value
    → is_smaller cost (record { over = over; value = size }) ≡ t
    → is_above (bound p b) (least p) ≡ t
above_shown p b over value cell cost size t low is same e =
    ap (is_above (bound p b)) is ∙ ap (is_smaller cost) (sym pair) ∙ e
  where
    pair : record { over = over; value = size } ≡ bound p b
    pair = ap (λ n. record { over = over; value = n }) same ∙ low_pair p b over value cell low

-- the next box to be written
pub next_lies : (p : Problem) (families : List Family) (b : DesignBox) (boxes rest : List DesignBox)
    → p.families ≡ families → boxes ≡ b ∷ rest → AllLieIn p.families boxes → LiesIn families b
next_lies p families b boxes rest same e all =
    subst (λ fs. LiesIn fs b) same
    (All-head (LiesIn p.families) b rest (subst (AllLieIn p.families) e all))

pub rest_lie : (p : Problem) (b : DesignBox) (boxes rest : List DesignBox) → boxes ≡ b ∷ rest
    → AllLieIn p.families boxes → AllLieIn p.families rest
rest_lie p b boxes rest e all =
    All-tail (LiesIn p.families) b rest (subst (AllLieIn p.families) e all)

pub trees_more : (p : Problem) (b : DesignBox) (boxes rest new : List DesignBox)
    (before after : List Node)
    → boxes ≡ b ∷ rest → Writes p b rest new before after
    → after ++ trees_of p new ≡ before ++ trees_of p boxes
trees_more p b boxes rest new before after e writes = rw e writes.trees

pub nodes_more : (p : Problem) (b : DesignBox) (boxes rest : List DesignBox) → boxes ≡ b ∷ rest
    → nodes_of_all p boxes ≡ nodes_of p b + nodes_of_all p rest
nodes_more p b boxes rest e = ap (nodes_of_all p) e ∙ sum_by-cons (nodes_of p) b rest
