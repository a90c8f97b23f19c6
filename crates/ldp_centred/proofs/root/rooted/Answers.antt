use Rattle.ldp_centred.proofs.Casts.{number-passed}
use Rattle.ldp_centred.proofs.root.rooted.Goals as goal

pub returns : goal.returns
returns c =
    let p = number-passed c.args.centre c.requires in
    let r = number-passed c.k.inside.error c.k.invariant.error_natural.number in
    rw (
      ← c.k.view_is,
      c.joined.ensures,
      c.error_of_root.ensures.value,
      c.slopes_of_root.ensures,
    )
    (simp (p, r))
