use Rattle.ldp_bound.specs.Kept.{low_from}
use Rattle.ldp_bound.proofs.Sweeps.{box_defined, box_told}
use Rattle.ldp_bound.proofs.lows.swept.Goals as goal

pub returns-clause-value : goal.returns-clause-value
returns-clause-value c =
    let s = c.args.sweep.now in
    box_told (low_from s.cells s.design) c.args.tolerance s.count c.in-Ok.told.over
    c.in-Ok.told.peak c.in-Ok.ensures.over c.in-Ok.ensures.peak

pub unreachable-requires : goal.unreachable-requires
unreachable-requires c =
    let s = c.args.sweep.now in
    box_defined (low_from s.cells s.design) s.count c.in_default.field-0.cell
    c.in_default.ensures.undefined
