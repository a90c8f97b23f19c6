use Rattle.ldp_range.proofs.twin_quotient.divided.Goals as goal

pub returns : goal.returns
returns c =
    rw (
      c.joined.ensures,
      c.least.ensures,
      c.greatest.ensures,
      c.low.ensures,
      c.low-2.ensures,
      c.low-3.ensures,
      c.high.ensures,
      c.high-2.ensures,
      c.high-3.ensures,
    )
