use Rattle.ldp_design.proofs.Wholes.{whole_found}
use Rattle.ldp_design.proofs.grids.whole.Goals as goal

pub returns-clause-whole : goal.returns-clause-whole
returns-clause-whole c =
    rw (
      c.whole_span.ensures,
      c.whole_span-2.ensures,
      c.whole_span-3.ensures,
      c.whole_span-4.ensures,
    )
    (whole_found c.args.grids.now.families c.args.f c.family-family.result.now
    c.family-family.ensures.valid c.family-family.ensures.value)
