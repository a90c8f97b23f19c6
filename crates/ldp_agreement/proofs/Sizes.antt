-- How long a canonical forest is.
use Rattle.std.proofs.Common.{◌≡◌, ◌≤◌, ◌+◌, ℕ, zero, suc, List, ◌∷◌, length}
use Rattle.std.proofs.Common.{Option, refl, ap, subst, ◌∙◌, arith}
use Rattle.std.proofs.lemmas.List.{length-append}
use Rattle.ldp_design.specs.declared.design_box.DesignBox.{DesignBox}
use Rattle.ldp_design.specs.declared.node.Node.{Node}
use Rattle.ldp_design.specs.declared.node.Node.TheVariants.{Tree}
use Rattle.ldp_design.specs.Forests.{node_count}
use Rattle.ldp_design.specs.Splits.{parts_at}
use Rattle.ldp_design.proofs.Wholes.{wholes_hold}
use Rattle.ldp_problem.specs.declared.pair.Pair.{Pair}
use Rattle.ldp_problem.specs.Problem.{Problem}
use Rattle.ldp_optimum.specs.Best.{least}
use Rattle.ldp_optimum.specs.Forest.{tree_of, first_trees, forest, needed}
use Rattle.ldp_optimum.specs.Trees.{IsTreeOf}
use Rattle.ldp_optimum.specs.Trees.IsTreeOf.{undefined, closed, parted}
use Rattle.ldp_optimum.proofs.Trees.{trees_are_trees, split_counts}
use Rattle.ldp_optimum.proofs.Forests.{next_tree, next_tree_counts, all_trees}
use Rattle.ldp_agreement.specs.Texts.{IsPrintable}
use Rattle.ldp_agreement.proofs.Forests.{whole_at}

-- a tree has nodes alone
tree_length : (p : Problem) (w : Option Pair) (b : DesignBox) (ns : List Node)
    → IsTreeOf p w b ns → length ns ≡ node_count ns
tree_length p w b _ (undefined _ cell e) = refl
tree_length p w b _ (closed _ e k) = refl
tree_length p w b _ (parted _ axis at low high e k l m) =
    omega (
      arith,
      length-append low high,
      split_counts axis at low high,
      tree_length p w (parts_at axis at b).0 low l,
      tree_length p w (parts_at axis at b).1 high m,
    )

first_length : (p : Problem) (count : ℕ) → IsPrintable p → count ≤ length p.families
    → length (first_trees p count) ≡ node_count (first_trees p count) + count
first_length p zero h k = refl
first_length p (suc count) h k =
    let whole = whole_at p.families count k in
    let is = wholes_hold p.families (suc count) whole.0 h.grids whole.1 in
    let tree : List Node = tree_of p (least p) whole.0 in
    let longer : length (first_trees p (suc count))
    ≡ length (first_trees p count) + suc (length tree) =
    ap length (next_tree p count whole.0 whole.1)
    ∙ length-append (first_trees p count) (Tree (suc count) ∷ tree) in
    omega (
      arith,
      longer,
      next_tree_counts p count whole.0 whole.1,
      tree_length p (least p) whole.0 tree (trees_are_trees p (least p) whole.0 h.grids is.lies),
      first_length p count h (omega (arith, k)),
    )

pub forest_length : (p : Problem) → IsPrintable p → length (forest p) ≡ needed p + length p.families
forest_length p h =
    subst (λ ns. length ns ≡ node_count ns + length p.families) (all_trees p)
    (first_length p (length p.families) h (omega arith))
