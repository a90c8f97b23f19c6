use Rattle.ldp_design.proofs.Cuts.{cuts_part}
use Rattle.ldp_design.proofs.design_box.cut.Goals as goal

pub returns-clause-parts : goal.returns-clause-parts
returns-clause-parts c = λ families h.
    rw (c.with_span.ensures, c.with_span-2.ensures, c.span-span.ensures)
    (cuts_part families c.args.b.now c.args.axis c.args.at h c.requires)
