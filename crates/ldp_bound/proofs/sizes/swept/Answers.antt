use Rattle.std.proofs.Common.{◌∙◌}
use Rattle.ldp_distortion.specs.Inputs.{numbers}
use Rattle.ldp_bound.specs.Kept.{size_from}
use Rattle.ldp_bound.proofs.Sweeps.{design_told, design_undefined}
use Rattle.ldp_bound.proofs.sizes.swept.Goals as goal

pub returns-in-Ok-clause-value : goal.returns-in-Ok-clause-value
returns-in-Ok-clause-value c =
    let s = c.args.sweep.now in
    c.cost.ensures.value
    ∙ design_told (size_from s.cells (numbers s.design)) c.args.tolerance s.count c.in-Ok.told.over
    c.in-Ok.told.peak c.in-Ok.ensures.over c.in-Ok.ensures.peak c.in-Ok.ensures.defined

pub returns-in-Err-clause-value : goal.returns-in-Err-clause-value
returns-in-Err-clause-value c =
    let s = c.args.sweep.now in
    design_undefined (size_from s.cells (numbers s.design)) c.args.tolerance s.count
    c.in-Err.undefined.cell
    c.in-Err.ensures.undefined
