-- Forests of boxes as a list of entries: for each tree a `Tree` entry, then its nodes, a split
-- before its low part and that before its high part.
use Rattle.std.specs.Prelude.{ℕ, zero, suc, ◌≤◌, ◌≡◌, Bool, true, false, List, [], ◌∷◌, Option}
use Rattle.std.specs.Prelude.{None, Some, drop}
use Rattle.std.specs.List.{count_by}
use Rattle.ldp_design.specs.declared.node.Node.{Node}
use Rattle.ldp_design.specs.declared.node.Node.TheVariants.{Tree, Split, Leaf, Unusable}
use Rattle.ldp_design.specs.declared.family.Family.{Family}
use Rattle.ldp_design.specs.declared.design_box.DesignBox.{DesignBox}
use Rattle.ldp_design.specs.Limits.{most_nodes}
use Rattle.ldp_design.specs.Boxes.{whole_of}
use Rattle.ldp_design.specs.Splits.{parts_at}

-- a node of a tree, and no `Tree` entry
abbrev pub is_node : Node → Bool
is_node (Tree _) = false
is_node (Split _ _) = true
is_node (Leaf _) = true
is_node (Unusable _) = true

-- the number of nodes of a forest
abbrev pub node_count : List Node → ℕ
node_count entries = count_by is_node entries

-- the entries complete a tree of which so many subtrees are still to come, and whole trees follow:
-- a split has two subtrees, a leaf none, and a tree begins where nothing is to come
abbrev pub is_shaped : List Node → ℕ → Bool
is_shaped [] zero = true
is_shaped [] (suc pending) = false
is_shaped (Tree _ ∷ entries) zero = is_shaped entries 1
is_shaped (Tree _ ∷ entries) (suc pending) = false
is_shaped (Split _ _ ∷ entries) zero = false
is_shaped (Split _ _ ∷ entries) (suc pending) = is_shaped entries (suc (suc pending))
is_shaped (Leaf _ ∷ entries) zero = false
is_shaped (Leaf _ ∷ entries) (suc pending) = is_shaped entries pending
is_shaped (Unusable _ ∷ entries) zero = false
is_shaped (Unusable _ ∷ entries) (suc pending) = is_shaped entries pending

-- a list of `Tree` entries, each followed by one complete tree, with at most 2,000,000 nodes
pub record IsWellShaped (entries : List Node) : Type 0 where
  pub shape : is_shaped entries 0 ≡ true
  pub few : node_count entries ≤ most_nodes

-- where a walk along the entries of a forest stands: how many trees have begun, and the boxes whose
-- nodes are still to come, the next one first
pub record Place : Type 0 where
  pub trees : ℕ
  pub boxes : List DesignBox

-- before the first entry
abbrev pub start : Place
start = record { trees = 0; boxes = [] }

-- a tree begins: its whole family is to come, if there is such a family
abbrev pub planted : List Family → ℕ → Place → Place
planted families number at =
    record { trees = suc at.trees; boxes = planted_boxes (whole_of families number) at.boxes }
  where
    planted_boxes : Option DesignBox → List DesignBox → List DesignBox
    planted_boxes None boxes = boxes
    planted_boxes (Some whole) boxes = whole ∷ boxes

-- the place after an entry; an entry that finds no box to come changes nothing
abbrev pub after : List Family → Node → Place → Place
after families (Tree number) at = planted families number at
after families (Split axis cut) at = record at { boxes = split_next at.boxes }
  where
    split_next : List DesignBox → List DesignBox
    split_next [] = []
    split_next (b ∷ boxes) = (parts_at axis cut b).0 ∷ (parts_at axis cut b).1 ∷ boxes
after families (Leaf _) at = record at { boxes = drop 1 at.boxes }
after families (Unusable _) at = record at { boxes = drop 1 at.boxes }
