-- The nodes of a forest, counted, and how many entries there are beside them.
use Rattle.std.proofs.Common.{◌≡◌, ◌≤◌, ◌+◌, ◌*◌, ℕ, zero, suc, min, true, cond, List, [], ◌∷◌}
use Rattle.std.proofs.Common.{length, drop, Some, refl, ap, ◌∙◌, arith}
use Rattle.std.specs.Prelude.{slice_get, if◌then◌else◌}
use Rattle.std.proofs.lemmas.List.{drop_more, drop_all}
use Rattle.std.proofs.lemmas.List.Sums.{sum_by-cons}
use Rattle.std.proofs.lemmas.Option.{slice_get_within, get_or_from_slice_get}
use Rattle.ldp_design.specs.declared.node.Node.{Node}
use Rattle.ldp_design.specs.declared.node.Node.TheVariants.{Tree, Split, Leaf, Unusable}
use Rattle.ldp_design.specs.Forests.{is_node, node_count, is_shaped, IsWellShaped}

pub count_first : (entry : Node) (entries : List Node)
    → node_count (entry ∷ entries) ≡ (if is_node entry then 1 else 0) + node_count entries
count_first entry entries = sum_by-cons (λ n. cond (is_node n) 1 0) entry entries

-- the next entry, counted with those before it
pub count_next : (entries : List Node) (i nodes value : ℕ) (entry : Node)
    → slice_get entries i ≡ Some entry
    → value ≡ (if is_node entry then 1 else 0)
    → nodes + node_count (drop i entries) ≡ node_count entries
    → (nodes + value) + node_count (drop (i + 1) entries) ≡ node_count entries
count_next entries i nodes value entry e v h =
    let next : drop i entries ≡ entry ∷ drop (i + 1) entries =
    drop_more entries i entry (slice_get_within entries i entry e)
    ∙ ap (λ n. n ∷ drop (i + 1) entries) (get_or_from_slice_get entries i entry entry e) in
    let first : node_count (drop i entries) ≡ value + node_count (drop (i + 1) entries) =
    rw (next, v) (count_first entry (drop (i + 1) entries)) in
    omega (arith, h, first)

pub count_end : (entries : List Node) (i nodes : ℕ) → length entries ≤ i
    → nodes + node_count (drop i entries) ≡ node_count entries → nodes ≡ node_count entries
count_end entries i nodes short h =
    let none : node_count (drop i entries) ≡ 0 = rw (drop_all i entries short) refl in
    omega (arith, h, none)

-- each tree has a node
few_trees : (entries : List Node) (pending : ℕ) → is_shaped entries pending ≡ true
    → length entries + min pending 1 ≤ 2 * node_count entries
few_trees [] zero h = omega arith
few_trees [] (suc pending) h = absurd cc
few_trees (Tree number ∷ entries) zero h =
    omega (arith, count_first (Tree number) entries, few_trees entries 1 h)
few_trees (Tree number ∷ entries) (suc pending) h = absurd cc
few_trees (Split axis cut ∷ entries) zero h = absurd cc
few_trees (Split axis cut ∷ entries) (suc pending) h =
    omega (arith, count_first (Split axis cut) entries, few_trees entries (suc (suc pending)) h)
few_trees (Leaf cell ∷ entries) zero h = absurd cc
few_trees (Leaf cell ∷ entries) (suc pending) h =
    omega (arith, count_first (Leaf cell) entries, few_trees entries pending h)
few_trees (Unusable cell ∷ entries) zero h = absurd cc
few_trees (Unusable cell ∷ entries) (suc pending) h =
    omega (arith, count_first (Unusable cell) entries, few_trees entries pending h)

pub few_entries : (entries : List Node) → IsWellShaped entries → length entries ≤ 4_000_000
few_entries entries h = omega (arith, few_trees entries 0 h.shape, h.few)
