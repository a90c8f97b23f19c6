use Rattle.ldp_range.proofs.twin_product.corners.Goals as goal

pub returns : goal.returns
returns c =
    rw (
      c.joined.ensures,
      c.least_of_four.ensures,
      c.greatest_of_four.ensures,
      c.times-low_low.ensures,
      c.times-low_high.ensures,
      c.times-high_low.ensures,
      c.times-high_high.ensures,
      c.low.ensures,
      c.low-2.ensures,
      c.low-3.ensures,
      c.low-4.ensures,
      c.high.ensures,
      c.high-2.ensures,
      c.high-3.ensures,
      c.high-4.ensures,
    )
