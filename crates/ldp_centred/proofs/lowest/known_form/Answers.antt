use Rattle.ldp_centred.proofs.Casts.{number-passed}
use Rattle.ldp_centred.proofs.lowest.known_form.Goals as goal

pub returns : goal.returns
returns c =
    let p = number-passed c.k.inside.centre c.k.invariant.centre_number in
    let r = number-passed c.k.inside.error c.k.invariant.error_natural.number in
    rw (
      ← c.k.view_is,
      c.sum_of.ensures,
      c.form_by.ensures,
      c.sharp.ensures,
      c.both_ways.ensures,
    )
    (simp (p, r))
