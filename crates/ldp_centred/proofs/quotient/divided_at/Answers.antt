use Rattle.std.proofs.Common.{◌≡◌, to_z, of_z}
use Rattle.std.specs.Prelude.{option_and_then}
use Rattle.std.specs.Int.{w128}
use Rattle.ldp_num.specs.Number.{IsNumber}
use Rattle.ldp_num.specs.Slopes.{known_divided}
use Rattle.ldp_centred.proofs.Casts.{number-passed}
use Rattle.ldp_centred.proofs.quotient.divided_at.Goals as goal

pub returns-in-Some : goal.returns-in-Some
returns-in-Some c =
    let n : IsNumber c.in-Some.centre = rw c.in-Some.is at c.requires in
    let p = number-passed c.in-Some.centre n in
    let h : c.divided_near.result ≡ option_and_then
    (known_divided c.args.range c.args.k c.args.l (to_z w128 (of_z w128 c.in-Some.centre)))
    c.near_quotient.result =
    c.divided_near.ensures in
    rw c.in-Some.is (rw (p, c.near_quotient.ensures, p) at h)
