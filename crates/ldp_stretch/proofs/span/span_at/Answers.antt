use Rattle.std.proofs.Common.{ap, ◌∙◌, take, length, rules}
use Rattle.std.proofs.lemmas.Int.{to_z-of_z}
use Rattle.std.specs.Prelude.{unsigned_abs}
use mir.Val.{SFits}
use mir.Syntax.{w128}
use Rattle.ldp_stretch.proofs.Spans.{node_spanned}
use Rattle.ldp_stretch.proofs.span.span_at.Goals as goal

pub returns-clause-spans : goal.returns-clause-spans
returns-clause-spans c =
    let p = c.args.prepared.now in
    let low : SFits w128 c.fewest.result = search (rules, c.fewest.ensures.number) in
    let high : SFits w128 c.most.result = search (rules, c.most.ensures.number) in
    λ node found.
    node_spanned p (take (length p.lists.design.outs) c.args.inputs.now) c.in_ok-hull.hull.now node
    c.in_ok-twin.twin (record { low = c.unsigned_abs.result; high = c.unsigned_abs-2.result })
    (c.in_ok-hull.ensures.holds node found) c.in_ok-twin.ensures.value
    (c.unsigned_abs.ensures.value
    ∙ ap unsigned_abs (to_z-of_z w128 c.fewest.result low ∙ c.fewest.ensures.value))
    (c.unsigned_abs-2.ensures.value
    ∙ ap unsigned_abs (to_z-of_z w128 c.most.result high ∙ c.most.ensures.value))
