use Rattle.std.proofs.Common.{◌≡◌, ap}
use Rattle.ldp_num.specs.Slopes.{Known}
use Rattle.ldp_centred.proofs.Casts.{number-passed}
use Rattle.ldp_centred.proofs.quotient.known_quotient.Goals as goal

pub returns : goal.returns
returns c =
    let p = number-passed c.k.inside.centre c.k.invariant.centre_number in
    let q = number-passed c.l.inside.centre c.l.invariant.centre_number in
    let v : c.k.inside.centre ≡ c.args.k.centre = ap (λ (x : Known). x.centre) c.k.view_is in
    let w : c.l.inside.centre ≡ c.args.l.centre = ap (λ (x : Known). x.centre) c.l.view_is in
    rw (c.divided_at.ensures, c.div.ensures.value, p, q, v, w)
