-- The entries of a forest, each judged at its place: the trees that have begun, and the boxes whose
-- nodes are still to come. (Own choice of this project.)
use Rattle.std.specs.Prelude.{ℕ, suc, pos, ◌+◌, ◌==◌, ◌&&◌, not, nat_lt, nat_le, length}
use Rattle.std.specs.Prelude.{List, [], ◌∷◌, Option, None, Some, is_none, if◌then◌else◌}
use Rattle.std.specs.Bool.{then_some}
use Rattle.std.specs.Option.{option_or}
use Rattle.ldp_design.specs.declared.axis.AxisName.{AxisName}
use Rattle.ldp_design.specs.declared.family.Family.{Family}
use Rattle.ldp_design.specs.declared.design_box.DesignBox.{DesignBox}
use Rattle.ldp_design.specs.declared.node.Node.{Node}
use Rattle.ldp_design.specs.declared.node.Node.TheVariants.{Tree, Split, Leaf, Unusable}
use Rattle.ldp_design.specs.Boxes.{span_of, is_single, first_of}
use Rattle.ldp_design.specs.Forests.{Place, after}
use Rattle.ldp_problem.specs.declared.pair.Pair.{Pair}
use Rattle.ldp_problem.specs.Problem.{Problem}
use Rattle.ldp_problem.specs.Pairs.{is_smaller}
use Rattle.ldp_problem.specs.Costs.{beyond, lows}
use Rattle.ldp_check.specs.declared.reason.Reason.{Reason}
use Rattle.ldp_check.specs.declared.reason.Reason.TheVariants.{TreeOutOfPlace, BadSplit, NoSuchCell}
use Rattle.ldp_check.specs.declared.reason.Reason.TheVariants.{LeafOpen, ShareOpen, NotUnusable}
use Rattle.ldp_check.specs.declared.reason.Reason.TheVariants.{FamilyMissing}

-- the next tree is not that of the family with its number, or there is no such family
abbrev pub tree_fault : List Family → ℕ → ℕ → ℕ → Option Reason
tree_fault families line number trees =
    then_some (not (number == suc trees && nat_le number (length families))) (TreeOutOfPlace line)

-- the cut is below the first index of the span, or not below the last
abbrev pub split_fault : ℕ → AxisName → ℕ → DesignBox → Option Reason
split_fault line axis cut b =
    then_some (not (nat_le (span_of axis b).lo cut && nat_lt cut (span_of axis b).hi))
    (BadSplit line)

-- what a leaf shows of each usable design of its box: at least so many cells beyond the tolerance,
-- and at the cell at least this absolute distortion
abbrev pub leaf_pair : Problem → DesignBox → ℕ → Pair
leaf_pair p b cell =
    record { over = beyond p.tolerance (lows p b); value = p.lower b cell }

-- what is shown is below the printed cost; without a tolerance the distortions are compared alone
abbrev pub open_fault : Option ℕ → Pair → ℕ → Pair → Option Reason
open_fault None printed line shown =
    then_some (nat_lt shown.value printed.value) (LeafOpen line (pos shown.value))
open_fault (Some tolerance) printed line shown =
    then_some (is_smaller shown printed) (ShareOpen line shown.over (pos shown.value))

-- there is no such cell, or what the leaf shows is below the printed cost
abbrev pub leaf_fault : Problem → Pair → ℕ → ℕ → DesignBox → Option Reason
leaf_fault p printed line cell b =
    if nat_lt cell p.cells then open_fault p.tolerance printed line (leaf_pair p b cell)
    else Some (NoSuchCell line)

-- there is no such cell, or the box is not of one design that is undefined there
abbrev pub unusable_fault : Problem → ℕ → ℕ → DesignBox → Option Reason
unusable_fault p line cell b =
    if nat_lt cell p.cells
    then then_some (not (is_single b && is_none (p.delta (first_of b) cell))) (NotUnusable line)
    else Some (NoSuchCell line)

-- what is wrong with the next box to come; nothing where there is none
abbrev pub box_fault : (DesignBox → Option Reason) → List DesignBox → Option Reason
box_fault fault [] = None
box_fault fault (b ∷ boxes) = fault b

-- what is wrong with an entry at its place
abbrev pub fault_at : Problem → Pair → ℕ → Node → Place → Option Reason
fault_at p printed line (Tree number) at = tree_fault p.families line number at.trees
fault_at p printed line (Split axis cut) at = box_fault (split_fault line axis cut) at.boxes
fault_at p printed line (Leaf cell) at = box_fault (leaf_fault p printed line cell) at.boxes
fault_at p printed line (Unusable cell) at = box_fault (unusable_fault p line cell) at.boxes

-- where so many trees have begun and each in its place, the next family has none
abbrev pub missing_fault : List Family → ℕ → Option Reason
missing_fault families trees =
    then_some (nat_lt trees (length families)) (FamilyMissing (suc trees))

-- the first fault of the entries from the one in this line on, in their order, and after the last
-- one the first family without a tree
abbrev pub first_fault : Problem → Pair → ℕ → List Node → Place → Option Reason
first_fault p printed line [] at = missing_fault p.families at.trees
first_fault p printed line (entry ∷ entries) at =
    option_or (fault_at p printed line entry at)
    (first_fault p printed (line + 1) entries (after p.families entry at))
