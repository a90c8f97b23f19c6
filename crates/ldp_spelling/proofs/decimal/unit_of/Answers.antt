use Rattle.std.proofs.Common.{◌^◌, ◌≤◌, arith}
use Rattle.std.proofs.Math.Nat.{one-le-pow, pow-le-pow_right}
use Rattle.ldp_spelling.proofs.decimal.unit_of.Goals as goal

pub returns-clause-positive : goal.returns-clause-positive
returns-clause-positive c = omega (arith, one-le-pow c.args.places 10)

pub returns-clause-small : goal.returns-clause-small
returns-clause-small c = let wide : 10 ^ c.args.places ≤ 10 ^ 15 =
    pow-le-pow_right (omega arith) c.requires in omega arith
