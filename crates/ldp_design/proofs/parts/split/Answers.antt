use Rattle.ldp_design.proofs.parts.split.Goals as goal

pub returns-clause-parts : goal.returns-clause-parts
returns-clause-parts c = c.cut.ensures.parts c.args.grids.now.families c.requires
