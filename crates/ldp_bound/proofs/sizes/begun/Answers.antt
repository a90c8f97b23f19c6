use Rattle.std.proofs.Common.{sym, subst}
use Rattle.ldp_distortion.specs.Prepared.{PreparedCells}
use Rattle.ldp_bound.specs.Kept.{TellsDesign}
use Rattle.ldp_bound.proofs.Kepts.{no_set_size, undefined_size, sizes_tell}
use Rattle.ldp_bound.proofs.sizes.begun.Goals as goal

pub returns-in_err-cells-clause-none : goal.returns-in_err-cells-clause-none
returns-in_err-cells-clause-none c =
    rw c.from_residual.ensures
    (no_set_size c.args.kept.now.grids.families c.args.kept.now.kinds c.args.d.now
    c.requires.admitted.family
    c.requires.admitted.found
    c.in_err-cells.ensures.set)

pub returns-then-not-put_design-clause-none : goal.returns-then-not-put_design-clause-none
returns-then-not-put_design-clause-none c =
    λ cell.
    undefined_size c.args.kept.now.grids.families c.args.kept.now.kinds c.args.d.now
    c.requires.admitted.family c.in_ok-cells.cells.now
    c.inputs_at-at.result c.requires.admitted.found c.in_ok-cells.ensures.set
    c.inputs_at-at.ensures.value
    c.if-not-put_design.ensures.value cell

pub returns-clause-tells : goal.returns-clause-tells
returns-clause-tells c =
    let families = c.args.kept.now.grids.families in
    let kinds = c.args.kept.now.kinds in
    subst (λ (p : PreparedCells). TellsDesign families kinds c.args.d.now p
    c.put_design.new.inputs)
    (sym c.stretched.ensures)
    (sizes_tell families kinds c.args.d.now c.requires.admitted.family c.in_ok-cells.cells.now
    c.inputs_at-at.result c.put_design.new.inputs c.requires.admitted.found
    c.in_ok-cells.ensures.set
    c.inputs_at-at.ensures.value
    c.if-not-put_design.ensures.value)
