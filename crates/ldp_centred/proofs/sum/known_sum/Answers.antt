use Rattle.ldp_centred.proofs.Casts.{number-passed}
use Rattle.ldp_centred.proofs.sum.known_sum.Goals as goal

pub returns : goal.returns
returns c =
    let p = number-passed c.k.inside.centre c.k.invariant.centre_number in
    let q = number-passed c.l.inside.centre c.l.invariant.centre_number in
    let r = number-passed c.k.inside.error c.k.invariant.error_natural.number in
    let s = number-passed c.l.inside.error c.l.invariant.error_natural.number in
    rw (
      ← c.k.view_is,
      ← c.l.view_is,
      c.joined.ensures,
      c.add.ensures.value,
      c.both_errors.ensures.value,
      c.sums.ensures,
    )
    (simp (p, q, r, s))
