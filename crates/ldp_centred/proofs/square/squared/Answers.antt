use Rattle.ldp_centred.proofs.Casts.{number-passed}
use Rattle.ldp_centred.proofs.square.squared.Goals as goal

pub returns : goal.returns
returns c =
    let p = number-passed c.k.inside.centre c.k.invariant.centre_number in
    let r = number-passed c.k.inside.error c.k.invariant.error_natural.number in
    rw (
      ← c.k.view_is,
      c.joined.ensures,
      c.sq.ensures.value,
      c.error_of_square.ensures.value,
      c.slopes_of_square.ensures,
    )
    (simp (p, r))
