use Rattle.ldp_centred.proofs.Casts.{number-passed}
use Rattle.ldp_centred.proofs.quotient.divided.Goals as goal

pub returns : goal.returns
returns c =
    let p = number-passed c.args.centre c.requires in
    let r = number-passed c.k.inside.error c.k.invariant.error_natural.number in
    let s = number-passed c.l.inside.error c.l.invariant.error_natural.number in
    rw (
      ← c.k.view_is,
      ← c.l.view_is,
      c.joined.ensures,
      c.error_of_quotient.ensures.value,
      c.slopes_of_quotient.ensures,
    )
    (simp (p, r, s))
