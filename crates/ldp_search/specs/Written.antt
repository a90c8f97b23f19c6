-- How far the canonical forest is written. (Own choice of this project.)
use Rattle.std.specs.Prelude.{◌≡◌, ◌+◌, ℕ, false, List, ◌++◌, flat_map, None}
use Rattle.ldp_design.specs.declared.design_box.DesignBox.{DesignBox}
use Rattle.ldp_design.specs.declared.node.Node.{Node}
use Rattle.ldp_design.specs.Laws.{AllLieIn}
use Rattle.ldp_problem.specs.Problem.{Problem}
use Rattle.ldp_problem.specs.Costs.{bound, bound_cell, unusable_at}
use Rattle.ldp_optimum.specs.Best.{least}
use Rattle.ldp_optimum.specs.Forest.{is_above, tree_of}
use Rattle.ldp_search.specs.Explored.{nodes_of, nodes_of_all}

-- the nodes of boxes in the canonical forest, one box after the other
abbrev pub trees_of : Problem → List DesignBox → List Node
trees_of p boxes = flat_map (tree_of p (least p)) boxes

-- a box that ends at this cell or is split
pub record IsOpen (p : Problem) (b : DesignBox) (cell : ℕ) : Type 0 where
  pub usable : unusable_at p b ≡ None
  pub below : is_above (bound p b) (least p) ≡ false
  pub at : cell ≡ bound_cell p b

-- the first node of a box is written, and its other nodes are those of the boxes that come first
-- now
pub record Writes (p : Problem) (b : DesignBox) (old new : List DesignBox)
    (before after : List Node) : Type 0 where
  pub trees : after ++ trees_of p new ≡ before ++ (tree_of p (least p) b ++ trees_of p old)
  pub lies : AllLieIn p.families old → AllLieIn p.families new
  pub nodes : 1 + nodes_of_all p new ≡ nodes_of p b + nodes_of_all p old
