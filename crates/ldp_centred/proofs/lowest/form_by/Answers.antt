use Rattle.ldp_centred.proofs.lowest.form_by.Goals as goal

pub returns : goal.returns
returns c =
    rw (
      ← c.slopes.view_is,
      c.sum_of.ensures,
      c.sum_of-by_azimuth.ensures,
      c.sum_of-by_longitude.ensures,
      c.sum_of-by_latitude.ensures,
      c.leaned.ensures,
      c.leaned-2.ensures,
      c.leaned-3.ensures,
      c.leaned-4.ensures,
    )
