use Rattle.std.proofs.Common.{sym, subst}
use Rattle.ldp_distortion.specs.Prepared.{PreparedCells}
use Rattle.ldp_bound.specs.Kept.{TellsBox}
use Rattle.ldp_bound.proofs.Kepts.{no_set_low, undefined_low, lows_tell}
use Rattle.ldp_bound.proofs.lows.begun.Goals as goal

pub returns-in_err-cells-clause-none : goal.returns-in_err-cells-clause-none
returns-in_err-cells-clause-none c =
    rw c.from_residual.ensures
    (no_set_low c.args.kept.now.grids.families c.args.kept.now.kinds c.args.b.now c.requires.lies.family
    c.requires.lies.found
    c.in_err-cells.ensures.set)

pub returns-then-not-put_box-clause-none : goal.returns-then-not-put_box-clause-none
returns-then-not-put_box-clause-none c =
    λ cell.
    undefined_low c.args.kept.now.grids.families c.args.kept.now.kinds c.args.b.now c.requires.lies.family
    c.in_ok-cells.cells.now
    c.inputs_of.result.0 c.inputs_of.result.1 c.requires.lies.found c.in_ok-cells.ensures.set
    c.inputs_of.ensures.value
    c.if-not-put_box.ensures.value cell

pub returns-clause-tells : goal.returns-clause-tells
returns-clause-tells c =
    let families = c.args.kept.now.grids.families in
    let kinds = c.args.kept.now.kinds in
    subst (λ (p : PreparedCells). TellsBox families kinds c.args.b.now p c.put_box.new.inputs)
    (sym c.stretched.ensures)
    (lows_tell families kinds c.args.b.now c.requires.lies.family c.in_ok-cells.cells.now
    c.inputs_of.result.0 c.inputs_of.result.1 c.put_box.new.inputs c.requires.lies.found
    c.in_ok-cells.ensures.set c.inputs_of.ensures.value
    c.if-not-put_box.ensures.value)
