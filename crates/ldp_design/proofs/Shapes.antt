-- The count of subtrees to come finds exactly the forests.
use Rattle.std.proofs.Common.{◌≡◌, ℕ, zero, suc, ◌<◌, ◌≤◌, true, List, [], ◌∷◌, ◌++◌, length, refl}
use Rattle.std.proofs.Common.{sym, ◌∙◌, ap, subst, append_assoc, arith}
use Rattle.std.specs.Prelude.{◌↔◌}
use Rattle.ldp_design.specs.declared.axis.AxisName.{AxisName}
use Rattle.ldp_design.specs.declared.node.Node.{Node}
use Rattle.ldp_design.specs.declared.node.Node.TheVariants.{Tree, Split, Leaf, Unusable}
use Rattle.ldp_design.specs.Forests.{is_shaped}
use Rattle.ldp_design.specs.Shapes.{IsTree, closed, undefined, parted, IsForest, none, grown}

-- a tree completes one subtree
tree-shaped : (nodes : List Node) → IsTree nodes → (rest : List Node) (k : ℕ)
    → is_shaped (nodes ++ rest) (suc k) ≡ is_shaped rest k
tree-shaped _ (closed cell) rest k = refl
tree-shaped _ (undefined cell) rest k = refl
tree-shaped _ (parted axis cut low high l h) rest k =
    ap (λ ns. is_shaped ns (suc (suc k))) (append_assoc low high rest)
    ∙ tree-shaped low l (high ++ rest) (suc k)
    ∙ tree-shaped high h rest k

pub forest-shaped : (entries : List Node) → IsForest entries → is_shaped entries 0 ≡ true
forest-shaped _ none = refl
forest-shaped _ (grown family tree rest t f) = tree-shaped tree t rest 0 ∙ forest-shaped rest f

-- entries that complete a subtree begin with a tree
pub record BeginsWithTree (entries : List Node) (k : ℕ) : Type 0 where
  pub tree : List Node
  pub rest : List Node
  pub is : entries ≡ tree ++ rest
  pub shape : IsTree tree
  pub others : is_shaped rest k ≡ true
  pub fewer : length rest < length entries

glued : (entries low rest high last : List Node) → entries ≡ low ++ rest → rest ≡ high ++ last
    → entries ≡ (low ++ high) ++ last
glued entries low rest high last e f = e ∙ ap (λ ns. low ++ ns) f ∙ sym (append_assoc low high last)

-- a split begins with the trees of its parts
split_begins : (axis : AxisName) (cut : ℕ) (entries : List Node) (k : ℕ)
    (low : BeginsWithTree entries (suc k)) → BeginsWithTree low.rest k
    → BeginsWithTree (Split axis cut ∷ entries) k
split_begins axis cut entries k low high = record {
  tree = Split axis cut ∷ (low.tree ++ high.tree);
  rest = high.rest;
  is =
      ap (λ ns. Split axis cut ∷ ns)
      (glued entries low.tree low.rest high.tree high.rest low.is high.is);
  shape = parted axis cut low.tree high.tree low.shape high.shape;
  others = high.others;
  fewer = omega (arith, low.fewer, high.fewer);
}

shaped-tree : (n : ℕ) (entries : List Node) (k : ℕ) → length entries ≤ n
    → is_shaped entries (suc k) ≡ true → BeginsWithTree entries k
shaped-tree n [] k b h = absurd cc
shaped-tree zero (x ∷ entries) k b h = absurd (omega arith)
shaped-tree (suc n) (Tree family ∷ entries) k b h = absurd cc
shaped-tree (suc n) (Leaf cell ∷ entries) k b h =
    record {
      tree = Leaf cell ∷ [];
      rest = entries;
      is = refl;
      shape = closed cell;
      others = h;
      fewer = omega arith;
    }
shaped-tree (suc n) (Unusable cell ∷ entries) k b h =
    record {
      tree = Unusable cell ∷ [];
      rest = entries;
      is = refl;
      shape = undefined cell;
      others = h;
      fewer = omega arith;
    }
shaped-tree (suc n) (Split axis cut ∷ entries) k b h =
    let low : BeginsWithTree entries (suc k) = shaped-tree n entries (suc k) (omega arith) h in
    split_begins axis cut entries k low
    (shaped-tree n low.rest k (omega (arith, low.fewer)) low.others)

shaped-forest : (n : ℕ) (entries : List Node) → length entries ≤ n → is_shaped entries 0 ≡ true
    → IsForest entries
shaped-forest n [] b h = none
shaped-forest zero (x ∷ entries) b h = absurd (omega arith)
shaped-forest (suc n) (Split axis cut ∷ entries) b h = absurd cc
shaped-forest (suc n) (Leaf cell ∷ entries) b h = absurd cc
shaped-forest (suc n) (Unusable cell ∷ entries) b h = absurd cc
shaped-forest (suc n) (Tree family ∷ entries) b h =
    let first : BeginsWithTree entries 0 = shaped-tree n entries 0 (omega arith) h in
    let others : IsForest first.rest =
    shaped-forest n first.rest (omega (arith, first.fewer)) first.others in
    subst (λ ns. IsForest (Tree family ∷ ns)) (sym first.is)
    (grown family first.tree first.rest first.shape others)

pub shapes_are_forests : (entries : List Node) → (is_shaped entries 0 ≡ true) ↔ IsForest entries
shapes_are_forests entries =
    (shaped-forest (length entries) entries (omega arith), forest-shaped entries)
