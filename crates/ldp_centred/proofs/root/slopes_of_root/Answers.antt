use Rattle.ldp_centred.proofs.root.slopes_of_root.Goals as goal

pub returns : goal.returns
returns c =
    rw (
      ← c.s.view_is,
      c.gathered.ensures,
      c.outward_of.ensures,
      c.outward_of-2.ensures,
      c.outward_of-3.ensures,
      c.outward_of-4.ensures,
      c.over.ensures,
      c.over-2.ensures,
      c.over-3.ensures,
      c.over-4.ensures,
    )
