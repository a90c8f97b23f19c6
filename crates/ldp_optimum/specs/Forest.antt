-- The canonical forest: a box is split exactly where its bound is at most the least cost. (Own
-- choice of this project.)
use Rattle.std.specs.Prelude.{ℕ, zero, suc, Bool, false, ◌||◌, List, [], ◌∷◌, ◌++◌, flat_map, take}
use Rattle.std.specs.Prelude.{Option, None, Some, if◌then◌else◌}
use Rattle.std.specs.List.{enumerate_from}
use Rattle.ldp_design.specs.declared.axis.AxisName.{AxisName}
use Rattle.ldp_design.specs.declared.family.Family.{Family}
use Rattle.ldp_design.specs.declared.design_box.DesignBox.{DesignBox}
use Rattle.ldp_design.specs.declared.node.Node.{Node}
use Rattle.ldp_design.specs.declared.node.Node.TheVariants.{Tree, Split, Leaf, Unusable}
use Rattle.ldp_design.specs.Boxes.{is_single, size, whole_box}
use Rattle.ldp_design.specs.Splits.{cut_for, parts_at}
use Rattle.ldp_design.specs.Forests.{node_count}
use Rattle.ldp_problem.specs.declared.pair.Pair.{Pair}
use Rattle.ldp_problem.specs.Problem.{Problem}
use Rattle.ldp_problem.specs.Pairs.{is_smaller}
use Rattle.ldp_problem.specs.Costs.{bound, bound_cell, unusable_at}
use Rattle.ldp_optimum.specs.Best.{least}

-- whether a bound is above a cost; false if there is none, since no design is usable
abbrev pub is_above : Pair → Option Pair → Bool
is_above bound None = false
is_above bound (Some cost) = is_smaller cost bound

-- the one node of a box that is not split: the undefined cell of a single that is not usable, or
-- the cell of the bound of another single or of a bound above the cost
abbrev pub end_node : Option ℕ → Bool → ℕ → Option Node
end_node (Some undefined) ends cell = Some (Unusable undefined)
end_node None ends cell = if ends then Some (Leaf cell) else None

-- the one node of a box for a least cost w; None if the box is split
abbrev pub end_of : Problem → Option Pair → DesignBox → Option Node
end_of p w b = end_node (unusable_at p b) (is_single b || is_above (bound p b) w) (bound_cell p b)

-- the nodes of a box: its one node, or its split, the nodes of the low and those of the high part
abbrev pub grown : Option Node → Option (AxisName × ℕ) → DesignBox → (DesignBox → List Node)
    → List Node
grown (Some node) cut b nodes = node ∷ []
grown None (Some (axis, at)) b nodes =
    Split axis at ∷ (nodes (parts_at axis at b).0 ++ nodes (parts_at axis at b).1)
grown None None b nodes = []

-- the nodes of a box of at most so many designs; each part has fewer
abbrev pub tree_within : Problem → Option Pair → ℕ → DesignBox → List Node
tree_within p w zero b = []
tree_within p w (suc most) b =
    grown (end_of p w b) (cut_for p.families b) b (tree_within p w most)

-- the tree of a box for a cost
unfoldable pub tree_of : Problem → Option Pair → DesignBox → List Node
tree_of p w b = tree_within p w (size b) b

-- the tree of a family under its number
abbrev pub family_tree : Problem → ℕ × Family → List Node
family_tree p (number, f) = Tree number ∷ tree_of p (least p) (whole_box number f)

-- the trees of the first families
abbrev pub first_trees : Problem → ℕ → List Node
first_trees p count = flat_map (family_tree p) (take count (enumerate_from 1 p.families))

-- the canonical forest: a tree for each family in order
unfoldable pub forest : Problem → List Node
forest p = flat_map (family_tree p) (enumerate_from 1 p.families)

-- its number of nodes
abbrev pub needed : Problem → ℕ
needed p = node_count (forest p)
