-- The nodes of a box for a cost, as a grammar.
use Rattle.std.specs.Prelude.{◌≡◌, ◌||◌, ℕ, true, false, List, [], ◌∷◌, ◌++◌, Option, None, Some}
use Rattle.ldp_design.specs.declared.axis.AxisName.{AxisName}
use Rattle.ldp_design.specs.declared.design_box.DesignBox.{DesignBox}
use Rattle.ldp_design.specs.declared.node.Node.{Node}
use Rattle.ldp_design.specs.declared.node.Node.TheVariants.{Split, Leaf, Unusable}
use Rattle.ldp_design.specs.Boxes.{is_single}
use Rattle.ldp_design.specs.Splits.{cut_for, parts_at}
use Rattle.ldp_problem.specs.declared.pair.Pair.{Pair}
use Rattle.ldp_problem.specs.Problem.{Problem}
use Rattle.ldp_problem.specs.Costs.{bound, bound_cell, unusable_at}
use Rattle.ldp_optimum.specs.Forest.{is_above}

-- a single that is not usable has its undefined cell; another single, or a box whose bound is above
-- the cost, has the cell of its bound; any other box has its split and the nodes of both parts
pub data IsTreeOf (p : Problem) (w : Option Pair) : DesignBox → List Node → Type 0 where
  undefined : (b : DesignBox) (cell : ℕ) → unusable_at p b ≡ Some cell
      → IsTreeOf p w b (Unusable cell ∷ [])
  closed : (b : DesignBox) → unusable_at p b ≡ None
      → (is_single b || is_above (bound p b) w) ≡ true
      → IsTreeOf p w b (Leaf (bound_cell p b) ∷ [])
  parted : (b : DesignBox) (axis : AxisName) (at : ℕ) (low high : List Node)
      → is_above (bound p b) w ≡ false → cut_for p.families b ≡ Some (axis, at)
      → IsTreeOf p w (parts_at axis at b).0 low → IsTreeOf p w (parts_at axis at b).1 high
      → IsTreeOf p w b (Split axis at ∷ (low ++ high))
