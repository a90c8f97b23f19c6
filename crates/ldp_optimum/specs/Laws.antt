-- What follows of the best design, of trees and of the canonical forest.
use Rattle.std.specs.Prelude.{◌≡◌, ◌≤◌, ◌+◌, ◌*◌, ◌||◌, ℕ, suc, true, false}
use Rattle.std.specs.Prelude.{List, [], ◌∷◌, ◌++◌, length, Option, None, Some, Contains}
use Rattle.std.specs.Cmp.{IsTotalOrder, IsStrictWeakOrder}
use Rattle.std.specs.Ordering.{is_lt}
use Rattle.ldp_design.specs.declared.family.Family.{Family}
use Rattle.ldp_design.specs.declared.axis.AxisName.{AxisName}
use Rattle.ldp_design.specs.declared.design.Design.{Design}
use Rattle.ldp_design.specs.declared.design_box.DesignBox.{DesignBox}
use Rattle.ldp_design.specs.declared.node.Node.{Node}
use Rattle.ldp_design.specs.declared.node.Node.TheVariants.{Tree, Split, Leaf, Unusable}
use Rattle.ldp_design.specs.Families.{AreGrids}
use Rattle.ldp_design.specs.Boxes.{LiesIn, is_single, size, whole_of}
use Rattle.ldp_design.specs.Splits.{cut_for, parts_at}
use Rattle.ldp_design.specs.Forests.{node_count, is_shaped}
use Rattle.ldp_design.specs.Designs.{IsAdmitted, design_cmp}
use Rattle.ldp_problem.specs.declared.pair.Pair.{Pair}
use Rattle.ldp_problem.specs.Problem.{Problem}
use Rattle.ldp_problem.specs.Pairs.{AtMost}
use Rattle.ldp_problem.specs.Costs.{IsUsable, cost, bound, bound_cell, unusable_at}
use Rattle.ldp_optimum.specs.Best.{Ranked, rank, ranked_cmp, is_better, all_designs, best, least}
use Rattle.ldp_optimum.specs.Forest.{is_above, tree_of, first_trees, forest, needed}
use Rattle.ldp_optimum.specs.Trees.{IsTreeOf}

-- a usable design is ranked by its cost
abbrev pub UsableAreRanked : Type 0
UsableAreRanked = (p : Problem) (d : Design) → IsUsable p d
    → rank p d ≡ Some record { design = d; cost = cost p d }

-- what is ranked is a usable design and its cost
pub record IsRankOf (p : Problem) (d : Design) (x : Ranked) : Type 0 where
  pub usable : IsUsable p d
  pub design : x.design ≡ d
  pub cost : x.cost ≡ cost p d

-- a design that is ranked is usable, and it is ranked with its own cost
abbrev pub RankedAreUsable : Type 0
RankedAreUsable = (p : Problem) (d : Design) (x : Ranked) → rank p d ≡ Some x → IsRankOf p d x

-- the order of ranked designs is total
abbrev pub RankedAreOrdered : Type 0
RankedAreOrdered = IsTotalOrder ranked_cmp

-- of ranked designs is_better is a strict order; that neither of two is better hands on to a third
abbrev pub BetterIsWeak : Type 0
BetterIsWeak = IsStrictWeakOrder is_better

-- none is better than itself
abbrev pub NoneBeatsItself : Type 0
NoneBeatsItself = (x : Ranked) → is_better x x ≡ false

-- two ranked designs of which neither is better are one
abbrev pub RankedAreDistinct : Type 0
RankedAreDistinct = (x y : Ranked) → is_better x y ≡ false → is_better y x ≡ false → x ≡ y

-- each admissible design is one of all designs
abbrev pub AdmittedAreListed : Type 0
AdmittedAreListed =
    (families : List Family) (d : Design) → IsAdmitted families d
    → Contains (all_designs families) d

-- each one of all designs is admissible
abbrev pub ListedAreAdmitted : Type 0
ListedAreAdmitted =
    (families : List Family) (d : Design) → Contains (all_designs families) d
    → IsAdmitted families d

-- an admissible design that is usable, and its cost
pub record IsRanked (p : Problem) (x : Ranked) : Type 0 where
  pub admitted : IsAdmitted p.families x.design
  pub ranked : rank p x.design ≡ Some x

-- the best is one
abbrev pub BestIsRanked : Type 0
BestIsRanked = (p : Problem) (x : Ranked) → best p ≡ Some x → IsRanked p x

-- no other is better
abbrev pub BestIsUnbeaten : Type 0
BestIsUnbeaten = (p : Problem) (x y : Ranked) → best p ≡ Some x → IsRanked p y
    → is_better y x ≡ false

-- no usable admissible design has a smaller cost
abbrev pub BestIsLeast : Type 0
BestIsLeast =
    (p : Problem) (x : Ranked) (d : Design) → best p ≡ Some x → IsAdmitted p.families d
    → IsUsable p d
    → AtMost x.cost (cost p d)

-- none of the same cost comes earlier
abbrev pub BestIsFirst : Type 0
BestIsFirst =
    (p : Problem) (x : Ranked) (d : Design) → best p ≡ Some x → IsAdmitted p.families d
    → IsUsable p d
    → cost p d ≡ x.cost → is_lt (design_cmp d x.design) ≡ false

-- where there is no best, no admissible design is usable
abbrev pub NoBestNoneUsable : Type 0
NoBestNoneUsable =
    (p : Problem) (d : Design) → best p ≡ None → IsAdmitted p.families d → IsUsable p d → ⊥

-- one that no other beats is the best
abbrev pub UnbeatenIsBest : Type 0
UnbeatenIsBest =
    (p : Problem) (x : Ranked) → IsRanked p x
    → ((y : Ranked) → IsRanked p y → is_better y x ≡ false) → best p ≡ Some x

-- where no admissible design is usable there is no best
abbrev pub NoneUsableNoBest : Type 0
NoneUsableNoBest =
    (p : Problem) → ((d : Design) → IsAdmitted p.families d → IsUsable p d → ⊥) → best p ≡ None

-- the tree of a single that is not usable is its undefined cell
abbrev pub TreeUnusable : Type 0
TreeUnusable = (p : Problem) (w : Option Pair) (b : DesignBox) (cell : ℕ)
    → unusable_at p b ≡ Some cell → tree_of p w b ≡ Unusable cell ∷ []

-- that of another single, or of a box whose bound is above the cost, is the cell of its bound
abbrev pub TreeClosed : Type 0
TreeClosed = (p : Problem) (w : Option Pair) (b : DesignBox)
    → unusable_at p b ≡ None → (is_single b || is_above (bound p b) w) ≡ true
    → tree_of p w b ≡ Leaf (bound_cell p b) ∷ []

-- that of any other box is its split and the trees of both parts
abbrev pub TreeSplit : Type 0
TreeSplit = (p : Problem) (w : Option Pair) (b : DesignBox) (axis : AxisName) (at : ℕ)
    → AreGrids p.families → LiesIn p.families b
    → is_above (bound p b) w ≡ false → cut_for p.families b ≡ Some (axis, at)
    → tree_of p w b
    ≡ Split axis at ∷ (tree_of p w (parts_at axis at b).0 ++ tree_of p w (parts_at axis at b).1)

-- the tree of a box is as the grammar has it
abbrev pub TreesAreTrees : Type 0
TreesAreTrees = (p : Problem) (w : Option Pair) (b : DesignBox)
    → AreGrids p.families → LiesIn p.families b → IsTreeOf p w b (tree_of p w b)

-- a split counts one more than its parts together
abbrev pub SplitCounts : Type 0
SplitCounts = (axis : AxisName) (at : ℕ) (low high : List Node)
    → node_count (Split axis at ∷ (low ++ high)) ≡ 1 + node_count low + node_count high

-- a tree has a node, and fewer than twice as many as its box has designs
abbrev pub TreesHaveNodes : Type 0
TreesHaveNodes = (p : Problem) (w : Option Pair) (b : DesignBox)
    → AreGrids p.families → LiesIn p.families b
    → (1 ≤ node_count (tree_of p w b)) × (node_count (tree_of p w b) + 1 ≤ 2 * size b)

-- after the trees of some families comes that of the next one
abbrev pub NextTree : Type 0
NextTree = (p : Problem) (count : ℕ) (whole : DesignBox)
    → whole_of p.families (suc count) ≡ Some whole
    → first_trees p (suc count)
    ≡ first_trees p count ++ Tree (suc count) ∷ tree_of p (least p) whole

-- a `Tree` entry is no node
abbrev pub NextTreeCounts : Type 0
NextTreeCounts = (p : Problem) (count : ℕ) (whole : DesignBox)
    → whole_of p.families (suc count) ≡ Some whole
    → node_count (first_trees p (suc count))
    ≡ node_count (first_trees p count) + node_count (tree_of p (least p) whole)

-- the trees of all families are the forest
abbrev pub AllTrees : Type 0
AllTrees = (p : Problem) → first_trees p (length p.families) ≡ forest p

-- the first trees have no more nodes than the forest
abbrev pub FirstTreesCount : Type 0
FirstTreesCount = (p : Problem) (count : ℕ) → node_count (first_trees p count) ≤ needed p

-- the forest is well shaped
abbrev pub ForestIsShaped : Type 0
ForestIsShaped = (p : Problem) → AreGrids p.families → is_shaped (forest p) 0 ≡ true

-- it has fewer than twice as many nodes as there are designs, by one for each family
abbrev pub ForestHasNodes : Type 0
ForestHasNodes = (p : Problem) → AreGrids p.families
    → (length p.families ≤ needed p)
    × (needed p + length p.families ≤ 2 * length (all_designs p.families))
