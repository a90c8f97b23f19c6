-- The stack of the boxes whose nodes are still to come.
use Rattle.std.specs.Prelude.{ℕ, List}
use Rattle.ldp_design.specs.declared.design_box.DesignBox.{DesignBox}
use Rattle.ldp_design.specs.Forests.{Place}

-- its room, and the boxes that it holds, the next one first
pub record BoxStack : Type 0 where
  pub room : ℕ
  pub boxes : List DesignBox

-- where a walk stands that has begun so many trees
abbrev pub place : ℕ → BoxStack → Place
place trees stack = record { trees = trees; boxes = stack.boxes }
