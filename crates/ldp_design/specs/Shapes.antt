-- Well-shaped forests as a grammar.
use Rattle.std.specs.Prelude.{◌≡◌, ℕ, true, ◌↔◌, List, [], ◌∷◌, ◌++◌}
use Rattle.ldp_design.specs.declared.axis.AxisName.{AxisName}
use Rattle.ldp_design.specs.declared.node.Node.{Node}
use Rattle.ldp_design.specs.declared.node.Node.TheVariants.{Tree, Split, Leaf, Unusable}
use Rattle.ldp_design.specs.Forests.{is_shaped}

-- the nodes of one complete tree: a leaf, or a split with its low and its high part
pub data IsTree : List Node → Type 0 where
  closed : (cell : ℕ) → IsTree (Leaf cell ∷ [])
  undefined : (cell : ℕ) → IsTree (Unusable cell ∷ [])
  parted : (axis : AxisName) (cut : ℕ) (low high : List Node) → IsTree low → IsTree high
      → IsTree (Split axis cut ∷ (low ++ high))

-- `Tree` entries, each followed by one complete tree
pub data IsForest : List Node → Type 0 where
  none : IsForest []
  grown : (family : ℕ) (tree rest : List Node) → IsTree tree → IsForest rest
      → IsForest (Tree family ∷ (tree ++ rest))

-- the count of subtrees to come finds exactly the forests
abbrev pub ShapesAreForests : Type 0
ShapesAreForests = (entries : List Node) → (is_shaped entries 0 ≡ true) ↔ IsForest entries
