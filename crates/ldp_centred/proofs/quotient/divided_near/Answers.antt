use Rattle.std.proofs.Common.{◌≡◌, to_z, of_z}
use Rattle.std.specs.Int.{w128}
use Rattle.ldp_num.specs.Slopes.{known_divided}
use Rattle.ldp_centred.proofs.Casts.{number-passed}
use Rattle.ldp_centred.proofs.quotient.divided_near.Goals as goal

pub returns-in-Some : goal.returns-in-Some
returns-in-Some c =
    let h : c.divided.result ≡ known_divided c.args.range c.args.k c.args.l
    (to_z w128 (of_z w128 c.args.centre)) c.in-Some.near =
    c.divided.ensures in
    rw c.in-Some.is (rw (number-passed c.args.centre c.requires) at h)
