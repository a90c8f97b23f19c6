use Rattle.ldp_centred.proofs.Casts.{number-passed}
use Rattle.ldp_centred.proofs.sum.known_natural.Goals as goal

pub returns : goal.returns
returns c =
    let p = number-passed c.k.inside.centre c.k.invariant.centre_number in
    let r = number-passed c.k.inside.error c.k.invariant.error_natural.number in
    rw (← c.k.view_is, c.joined.ensures, c.need.ensures.value) (simp (p, r))
