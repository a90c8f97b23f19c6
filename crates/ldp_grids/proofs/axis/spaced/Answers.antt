use Rattle.std.proofs.Common.{rules}
use Rattle.std.proofs.lemmas.Int.{to_z-of_z}
use mir.Val.{SFits}
use mir.Syntax.{w128}
use Rattle.ldp_grids.proofs.Singles.{spaced_in}
use Rattle.ldp_grids.proofs.axis.spaced.Goals as goal

pub returns-then-has-clause-range : goal.returns-then-has-clause-range
returns-then-has-clause-range c =
    let from_fits : SFits w128 c.args.from = search rules in
    let step_fits : SFits w128 c.args.step = search rules in
    let last_fits : SFits w128 c.last_value.result = search rules in
    let inside = rw (to_z-of_z w128 c.last_value.result last_fits) at c.has.ensures.inside in
    let from = to_z-of_z w128 c.args.from from_fits in
    let step = to_z-of_z w128 c.args.step step_fits in
    let last = rw (from, step) at c.last_value.ensures in
    rw (from, step) (spaced_in _ c.range_of.result _ c.last_value.result
    c.requires.first c.requires.forward c.requires.step
    c.requires.some c.requires.few c.range_of.ensures last (inside c.if-has.true))
