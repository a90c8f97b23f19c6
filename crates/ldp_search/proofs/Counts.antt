-- The nodes of boxes in the canonical forest.
use Rattle.std.proofs.Common.{◌≡◌, ◌≤◌, ◌<◌, ◌+◌, ℕ, true, false, ◌||◌, List, [], ◌∷◌, length, None}
use Rattle.std.proofs.Common.{Some, ap, ◌∙◌, arith}
use Rattle.std.proofs.lemmas.List.Elements.{All-head, All-tail}
use Rattle.std.proofs.lemmas.List.Sums.{sum_by-cons}
use Rattle.std.specs.Prelude.{All}
use Rattle.ldp_design.specs.declared.axis.AxisName.{AxisName}
use Rattle.ldp_design.specs.declared.design_box.DesignBox.{DesignBox}
use Rattle.ldp_design.specs.Families.{AreGrids}
use Rattle.ldp_design.specs.Boxes.{LiesIn, is_single}
use Rattle.ldp_design.specs.Splits.{cut_for, parts_at}
use Rattle.ldp_design.specs.Forests.{node_count}
use Rattle.ldp_problem.specs.Problem.{Problem}
use Rattle.ldp_problem.specs.Costs.{bound, unusable_at}
use Rattle.ldp_optimum.specs.Best.{least}
use Rattle.ldp_optimum.specs.Forest.{is_above, tree_of, needed}
use Rattle.ldp_optimum.proofs.Trees.{tree_unusable, tree_closed, tree_split, split_counts}
use Rattle.ldp_optimum.proofs.Trees.{trees_have_nodes}
use Rattle.ldp_optimum.proofs.Forests.{first_trees_count}
use Rattle.ldp_search.specs.declared.bounded_box.BoundedBox.{BoundedBox}
use Rattle.ldp_search.specs.declared.state.State.{State}
use Rattle.ldp_search.specs.Explored.{nodes_of, nodes_on, IsSplittable, IsExplored}

pub nodes_unusable : (p : Problem) (b : DesignBox) (cell : ℕ) → unusable_at p b ≡ Some cell
    → nodes_of p b ≡ 1
nodes_unusable p b cell e = ap node_count (tree_unusable p (least p) b cell e)

pub nodes_closed : (p : Problem) (b : DesignBox) → unusable_at p b ≡ None
    → (is_single b || is_above (bound p b) (least p)) ≡ true → nodes_of p b ≡ 1
nodes_closed p b e t = ap node_count (tree_closed p (least p) b e t)

pub nodes_split : (p : Problem) (b : DesignBox) (axis : AxisName) (at : ℕ) → AreGrids p.families
    → LiesIn p.families b → is_above (bound p b) (least p) ≡ false
    → cut_for p.families b ≡ Some (axis, at)
    → nodes_of p b ≡ 1 + nodes_of p (parts_at axis at b).0 + nodes_of p (parts_at axis at b).1
nodes_split p b axis at g h a c =
    ap node_count (tree_split p (least p) b axis at g h a c)
    ∙ split_counts axis at (tree_of p (least p) (parts_at axis at b).0)
    (tree_of p (least p) (parts_at axis at b).1)

pub some_nodes : (p : Problem) (b : DesignBox) → AreGrids p.families → LiesIn p.families b
    → 1 ≤ nodes_of p b
some_nodes p b g h = (trees_have_nodes p (least p) b g h).0

-- each box that may be split has a node
pub frontier_nodes : (p : Problem) (frontier : List BoundedBox) → AreGrids p.families
    → All (IsSplittable p) frontier → length frontier ≤ nodes_on p frontier
frontier_nodes p [] g all = omega arith
frontier_nodes p (o ∷ frontier) g all =
    let first = All-head (IsSplittable p) o frontier all in
    let some : 1 ≤ nodes_of p o.region = some_nodes p o.region g first.lies in
    let more : length frontier ≤ nodes_on p frontier =
    frontier_nodes p frontier g (All-tail (IsSplittable p) o frontier all) in
    omega (arith, sum_by-cons (λ x. nodes_of p x.region) o frontier)

-- while a box is to be evaluated, fewer than the needed number were
pub below_needed : (p : Problem) (begun : ℕ) (b : DesignBox) (pending : List DesignBox) (s : State)
    → IsExplored p begun (b ∷ pending) s → s.evaluated < needed p
below_needed p begun b pending s x =
    let some : 1 ≤ nodes_of p b =
    some_nodes p b x.grids (All-head (LiesIn p.families) b pending x.lies) in
    let more : length s.frontier ≤ nodes_on p s.frontier =
    frontier_nodes p s.frontier x.grids x.frontier in
    omega (arith, x.count, sum_by-cons (nodes_of p) b pending, first_trees_count p begun)
