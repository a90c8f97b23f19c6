-- The forest, one family after the other.
use Rattle.std.proofs.Common.{◌≡◌, ◌≤◌, ◌+◌, ℕ, suc, List, [], ◌∷◌, ◌++◌, length, Some, refl, sym}
use Rattle.std.proofs.Common.{ap, ◌∙◌, arith, append_assoc}
use Rattle.std.proofs.lemmas.List.Sums.{sum_by-cons}
use Rattle.ldp_design.specs.declared.design_box.DesignBox.{DesignBox}
use Rattle.ldp_design.specs.declared.family.Family.{Family}
use Rattle.ldp_design.specs.declared.node.Node.{Node}
use Rattle.ldp_design.specs.declared.node.Node.TheVariants.{Tree}
use Rattle.ldp_design.specs.Boxes.{whole_of}
use Rattle.ldp_design.specs.Forests.{node_count}
use Rattle.ldp_problem.specs.Problem.{Problem}
use Rattle.ldp_optimum.specs.Best.{least}
use Rattle.ldp_optimum.specs.Forest.{tree_of, first_trees, forest, needed}
use Rattle.ldp_optimum.proofs.Forests.{next_tree, next_tree_counts, all_trees, first_trees_count}
use Rattle.ldp_search.specs.Explored.{nodes_of, nodes_of_all}
use Rattle.ldp_search.specs.Written.{trees_of}

append_nil : (xs : List Node) → xs ++ [] ≡ xs
append_nil [] = refl
append_nil (x ∷ xs) = ap (λ ys. x ∷ ys) (append_nil xs)

-- the whole of the next family, over the families that the problem has
next_whole : (p : Problem) (families : List Family) (index : ℕ) (whole : DesignBox)
    → p.families ≡ families
    → whole_of families (index + 1) ≡ Some whole → whole_of p.families (suc index) ≡ Some whole
next_whole p families index whole same e =
    let next : suc index ≡ index + 1 = omega arith in
    ap (λ fs. whole_of fs (suc index)) same ∙ ap (whole_of families) next ∙ e

pub next_written : (p : Problem) (families : List Family) (index : ℕ) (whole : DesignBox)
    (boxes : List DesignBox) (before begun after : List Node) → p.families ≡ families
    → whole_of families (index + 1) ≡ Some whole
    → boxes ≡ whole ∷ [] → before ≡ first_trees p index → begun ≡ before ++ Tree (index + 1) ∷ []
    → after ≡ begun ++ trees_of p boxes → after ≡ first_trees p (index + 1)
next_written p families index whole boxes before begun after same e one written tree all =
    let next : suc index ≡ index + 1 = omega arith in
    all ∙ ap (λ bs. begun ++ trees_of p bs) one
    ∙ ap (λ nodes. begun ++ nodes) (append_nil (tree_of p (least p) whole))
    ∙ ap (λ nodes. nodes ++ tree_of p (least p) whole) tree
    ∙ append_assoc before (Tree (index + 1) ∷ []) (tree_of p (least p) whole)
    ∙ ap (λ nodes. nodes ++ Tree (index + 1) ∷ tree_of p (least p) whole) written
    ∙ ap (λ n. first_trees p index ++ Tree n ∷ tree_of p (least p) whole) (sym next)
    ∙ sym (next_tree p index whole (next_whole p families index whole same e))
    ∙ ap (first_trees p) next

pub next_counted : (p : Problem) (families : List Family) (index : ℕ) (whole : DesignBox)
    (boxes : List DesignBox)
    → p.families ≡ families → whole_of families (index + 1) ≡ Some whole → boxes ≡ whole ∷ []
    → node_count (first_trees p (index + 1))
    ≡ node_count (first_trees p index) + nodes_of_all p boxes
next_counted p families index whole boxes same e one =
    let next : suc index ≡ index + 1 = omega arith in
    ap (λ n. node_count (first_trees p n)) (sym next)
    ∙ next_tree_counts p index whole (next_whole p families index whole same e)
    ∙ ap (λ n. node_count (first_trees p index) + n) nodes
  where
    nodes : nodes_of p whole ≡ nodes_of_all p boxes
    nodes = rw one (omega (arith, sum_by-cons (nodes_of p) whole []))

pub some_counted : (p : Problem) (index : ℕ) → node_count (first_trees p index) ≤ needed p
some_counted p index = first_trees_count p index

pub all_written : (p : Problem) (families : List Family) (index : ℕ) → p.families ≡ families
    → index ≡ length families → first_trees p index ≡ forest p
all_written p families index same e =
    ap (first_trees p) (e ∙ ap length (sym same)) ∙ all_trees p
