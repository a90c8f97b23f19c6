use Rattle.std.proofs.Common.{◌≡◌, ap}
use Rattle.ldp_num.specs.Slopes.{Known}
use Rattle.ldp_centred.proofs.Casts.{number-passed}
use Rattle.ldp_centred.proofs.root.known_square_root.Goals as goal

pub returns : goal.returns
returns c =
    let p = number-passed c.k.inside.centre c.k.invariant.centre_number in
    let v : c.k.inside.centre ≡ c.args.k.centre = ap (λ (x : Known). x.centre) c.k.view_is in
    rw (c.rooted_at.ensures, c.sqrt.ensures.value, p, v)
