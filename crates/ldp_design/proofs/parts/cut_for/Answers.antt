use Rattle.ldp_design.proofs.Splits.{cut_for_single, cut_for_within}
use Rattle.ldp_design.proofs.Wholes.{box_of}
use Rattle.ldp_design.proofs.parts.cut_for.Goals as goal

pub returns-clause-single : goal.returns-clause-single
returns-clause-single c =
    cut_for_single c.family.result.now c.args.b.now c.family_cut.result c.family_cut.ensures

pub returns-clause-within : goal.returns-clause-within
returns-clause-within c =
    let box =
    box_of c.args.grids.now.families c.args.b.now c.family.result.now c.requires
    c.family.ensures.value in
    cut_for_within c.family.result.now c.args.b.now c.family_cut.result c.family.ensures.valid box
    c.family_cut.ensures
