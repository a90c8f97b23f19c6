use Rattle.std.proofs.Common.{◌≡◌, ◌+◌, false, List, [], ◌∷◌, length, length-append, sym, ap, ◌∙◌}
use Rattle.std.proofs.Common.{arith}
use Rattle.ldp_job.specs.Entries.{is_over, node_value, pending_after, forest_at}
use Rattle.ldp_design.specs.declared.node.Node.{Node}
use Rattle.ldp_job.proofs.Walks.{over_is, end_is, bad_is, entry_is, front_more, front_end}
use Rattle.ldp_job.proofs.Walks.{with_front, few_more, parts_more, place_more}
use Rattle.ldp_job.proofs.trees.forest_lines.Goals as goal

pub returns-then-is_over-clause-value : goal.returns-then-is_over-clause-value
returns-then-is_over-clause-value c = λ _.
    sym c.entries.invariant.same
    ∙ ap (with_front c.entries.forest)
    (over_is c.entries.number c.entries.nodes c.entries.pending c.entries.lines
    c.next_line.new.lines c.in_ok-line.line.now c.in_ok-line.ensures
    (sym c.is_over.ensures ∙ c.if-is_over.true))

pub returns-then-is_end-clause-value : goal.returns-then-is_end-clause-value
returns-then-is_end-clause-value c =
    sym c.entries.invariant.same
    ∙ (ap (with_front c.entries.forest)
    (end_is c.entries.number c.entries.nodes c.entries.pending c.entries.lines
    c.next_line.new.lines c.in_ok-line.line.now c.in_ok-line.ensures
    (sym c.is_over.ensures ∙ c.if-is_over.false) (sym c.is_end.ensures ∙ c.if-is_end.true))
    ∙ front_end c.entries.forest c.next_line.new.lines)

pub returns-in_default-clause-value : goal.returns-in_default-clause-value
returns-in_default-clause-value c = λ _.
    sym c.entries.invariant.same
    ∙ ap (with_front c.entries.forest)
    (bad_is c.entries.number c.entries.nodes c.entries.pending c.entries.lines
    c.next_line.new.lines c.in_ok-line.line.now c.in_ok-line.ensures
    (sym c.is_over.ensures ∙ c.if-is_over.false) (sym c.is_end.ensures ∙ c.if-is_end.false)
    (sym c.in_default.ensures.value))

pub entries-preserved : goal.entries-preserved
entries-preserved c =
    let over : is_over c.entries.nodes c.in_ok-line.line.now ≡ false = sym c.is_over.ensures
    ∙ c.if-is_over.false in
    let step =
    entry_is c.entries.number c.entries.nodes c.entries.pending c.entries.lines
    c.next_line.new.lines c.in_ok-line.line.now c.in-Some.node c.in_ok-line.ensures
    over (sym c.is_end.ensures ∙ c.if-is_end.false) (sym c.in-Some.ensures.value) in
    let value : c.node_value-nodes.result ≡ node_value c.in-Some.node =
    c.node_value-nodes.ensures in
    let pending : c.pending_after-pending.result ≡ pending_after c.entries.pending c.in-Some.node =
    c.pending_after-pending.ensures in
    let parts =
    parts_more c.entries.nodes c.entries.pending c.in-Some.node c.entries.invariant.parts in
    let place =
    place_more c.entries.number c.args.first c.entries.nodes c.entries.pending c.in-Some.node
    c.in-Some.ensures.node.0 c.entries.invariant.place in
    record {
      same =
          ap (λ v. with_front c.push.new.self
          (forest_at (c.entries.number + 1) (c.entries.nodes + v) c.pending_after-pending.result
          c.next_line.new.lines)) value
          ∙ (ap (λ p. with_front c.push.new.self
          (forest_at (c.entries.number + 1) (c.entries.nodes + node_value c.in-Some.node) p
          c.next_line.new.lines)) pending
          ∙ (ap (λ f. with_front f
          (forest_at (c.entries.number + 1) (c.entries.nodes + node_value c.in-Some.node)
          (pending_after c.entries.pending c.in-Some.node) c.next_line.new.lines))
          c.in_ok-push.ensures.ok
          ∙ (sym (front_more c.entries.forest c.in-Some.node
          (forest_at (c.entries.number + 1) (c.entries.nodes + node_value c.in-Some.node)
          (pending_after c.entries.pending c.in-Some.node) c.next_line.new.lines))
          ∙ (ap (with_front c.entries.forest) (sym step) ∙ c.entries.invariant.same))));
      few = few_more c.entries.nodes c.node_value-nodes.result c.in_ok-line.line.now c.in-Some.node
          value over c.in-Some.ensures.node.1 c.entries.invariant.few;
      parts = omega (arith, value, pending, parts);
      place = omega (arith, value, pending, place);
      entries =
          omega (
            arith,
            ap (λ (ns : List Node). length ns) c.in_ok-push.ensures.ok,
            length-append c.entries.forest (c.in-Some.node ∷ []),
            c.entries.invariant.entries,
          );
    }
