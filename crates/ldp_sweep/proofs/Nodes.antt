-- Nodes in a list, and nodes that are added to it.
use Rattle.std.proofs.Common.{◌≡◌, ◌≤◌, ◌<◌, ◌+◌, ◌-◌, ℕ, zero, suc, List, [], ◌∷◌, ◌++◌}
use Rattle.std.proofs.Common.{length, slice_get, arith, refl, sym, ap, subst, ◌∙◌, ◌⊎◌, inl, inr}
use Rattle.std.proofs.Common.{append_assoc, rules}
use Rattle.std.proofs.lemmas.Bool.{cases_lt}
use Rattle.std.proofs.lemmas.List.{length-append}
use Rattle.std.proofs.lemmas.Option.{slice_get_within, same_Some}
use Rattle.std.specs.Prelude.{Some}
use Rattle.ldp_sweep.specs.declared.stretch.Stretch.{Stretch}
use Rattle.ldp_sweep.specs.Cut.{first_cell, start, IsNode, AreNodes, IsCut}
use Rattle.ldp_sweep.specs.Grown.{IsGrown, IsGrownFrom}

-- the nodes up to a place cover the cells from the first one of the node there on
pub start_is : (cells : ℕ) (nodes : List Stretch) (at : ℕ) (node : Stretch)
    → slice_get nodes at ≡ Some node → start cells nodes (suc at) ≡ node.from
start_is cells nodes at node found = ap (first_cell cells) found

-- so many nodes, with the last of them at a place
pub start_above : (cells : ℕ) (nodes : List Stretch) (height : ℕ) (node : Stretch) → 0 < height
    → slice_get nodes (height - 1) ≡ Some node → start cells nodes height ≡ node.from
start_above cells nodes zero node h found = absurd (omega arith)
start_above cells nodes (suc at) node h found =
    let back : suc at - 1 ≡ at = omega arith in
    start_is cells nodes at node (ap (slice_get nodes) (sym back) ∙ found)

-- more nodes behind change nothing in front
get_front : (nodes more : List Stretch) (at : ℕ) → at < length nodes
    → slice_get (nodes ++ more) at ≡ slice_get nodes at
get_front [] more at h = absurd (omega arith)
get_front (node ∷ nodes) more zero h = refl
get_front (node ∷ nodes) more (suc at) h = get_front nodes more at (omega arith)

pub get_last : (nodes : List Stretch) (node : Stretch)
    → slice_get (nodes ++ node ∷ []) (length nodes) ≡ Some node
get_last [] node = refl
get_last (first ∷ nodes) node = get_last nodes node

start_front : (cells : ℕ) (nodes more : List Stretch) (count : ℕ) → count ≤ length nodes
    → start cells (nodes ++ more) count ≡ start cells nodes count
start_front cells nodes more zero h = refl
start_front cells nodes more (suc count) h =
    ap (first_cell cells) (get_front nodes more count (omega arith))

node_front : (cells : ℕ) (nodes more : List Stretch) (at : ℕ) (node : Stretch) → at < length nodes
    → IsNode cells nodes at node → IsNode cells (nodes ++ more) at node
node_front cells nodes more at node h known =
    record {
      skips_back = known.skips_back;
      ordered = known.ordered;
      inside = known.inside;
      behind = start_front cells nodes more node.skip (omega (arith, known.skips_back))
          ∙ known.behind;
      parts = λ k. start_front cells nodes more at (omega arith) ∙ known.parts k;
    }

-- the places of a list with one more node
nodes_push : (cells : ℕ) (nodes : List Stretch) (last : Stretch)
    → AreNodes cells nodes → IsNode cells nodes (length nodes) last
    → AreNodes cells (nodes ++ last ∷ [])
nodes_push cells nodes last known new at node found = by_place (cases_lt at (length nodes))
  where
    within : at < length nodes + 1
    within =
        omega (
          arith,
          slice_get_within (nodes ++ last ∷ []) at node found,
          length-append nodes (last ∷ []),
        )

    by_place : (at < length nodes) ⊎ (length nodes ≤ at)
        → IsNode cells (nodes ++ last ∷ []) at node
    by_place (inl before) =
        node_front cells nodes (last ∷ []) at node before
        (known at node (sym (get_front nodes (last ∷ []) at before) ∙ found))
    by_place (inr after) =
        let here : at ≡ length nodes = omega (arith, within) in
        let same : last ≡ node = same_Some last node
        (sym (get_last nodes last) ∙ ap (slice_get (nodes ++ last ∷ [])) (sym here) ∙ found) in
        let moved : IsNode cells (nodes ++ last ∷ []) (length nodes) last =
        record {
          skips_back = new.skips_back;
          ordered = new.ordered;
          inside = new.inside;
          behind = start_front cells nodes (last ∷ []) last.skip new.skips_back ∙ new.behind;
          parts = λ k. start_front cells nodes (last ∷ []) (length nodes) (omega arith)
              ∙ new.parts k;
        } in
        subst (λ n. IsNode cells (nodes ++ last ∷ []) n node) (sym here)
        (subst (IsNode cells (nodes ++ last ∷ []) (length nodes)) same moved)

-- nothing was added
pub grown_none : (nodes : List Stretch) (to : ℕ) → IsGrownFrom nodes nodes to to
grown_none nodes to cells inside covers =
    record { more = []; is = sym append_nil; nodes = λ known. known; covers = covers }
  where
    append_nil : nodes ++ [] ≡ nodes
    append_nil = search rules

-- one part after the others
pub grown_both : (a b c : List Stretch) (from begin to : ℕ) → begin ≤ to
    → IsGrownFrom a b begin to → IsGrownFrom b c from begin → IsGrownFrom a c from to
grown_both a b c from begin to h first then cells inside covers =
    let one = first cells inside covers in
    let two = then cells (omega arith) one.covers in
    record {
      more = one.more ++ two.more;
      is = two.is ∙ ap (λ nodes. nodes ++ two.more) one.is ∙ append_assoc a one.more two.more;
      nodes = λ known. two.nodes (one.nodes known);
      covers = two.covers;
    }

-- the node after its parts, where there are some
pub grown_node : (old nodes : List Stretch) (node : Stretch) (end : ℕ)
    → IsGrownFrom old nodes end node.to → node.skip ≡ length old → node.from ≤ node.to
    → (length old < length nodes → end ≡ node.from)
    → IsGrownFrom old (nodes ++ node ∷ []) node.from node.to
grown_node old nodes node end parts skip ordered covered cells inside covers =
    let grown = parts cells inside covers in
    record {
      more = grown.more ++ node ∷ [];
      is = ap (λ nodes. nodes ++ node ∷ []) grown.is ∙ append_assoc old grown.more (node ∷ []);
      nodes = λ known. nodes_push cells nodes node (grown.nodes known) (is_node grown);
      covers = at_last;
    }
  where
    is_node : IsGrown cells old nodes end → IsNode cells nodes (length nodes) node
    is_node grown = record {
      skips_back = omega (arith, ap length grown.is, length-append old grown.more);
      ordered = ordered;
      inside = inside;
      behind = ap (start cells nodes) skip
          ∙ ap (λ list. start cells list (length old)) grown.is
          ∙ start_front cells old grown.more (length old) (omega arith) ∙ covers;
      parts = λ h. grown.covers ∙ covered (omega arith);
    }

    one_more : length (nodes ++ node ∷ []) ≡ suc (length nodes)
    one_more = length-append nodes (node ∷ []) ∙ omega arith

    at_last : start cells (nodes ++ node ∷ []) (length (nodes ++ node ∷ [])) ≡ node.from
    at_last =
        ap (start cells (nodes ++ node ∷ [])) one_more
        ∙ start_is cells (nodes ++ node ∷ []) (length nodes) node (get_last nodes node)

-- what is added to no node
pub cut_of : (cells : ℕ) (nodes : List Stretch) → 0 < cells → IsGrownFrom [] nodes 0 cells
    → IsCut cells nodes
cut_of cells nodes some grown =
    let all = grown cells (omega arith) refl in
    record {
      some = some;
      begins = all.covers;
      each = all.nodes (λ at node found. absurd (search rules));
    }
