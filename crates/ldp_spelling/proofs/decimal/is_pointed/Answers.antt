use Rattle.std.proofs.Common.{◌≡◌, ◌<◌, ◌==◌, false, length, ◌++◌, ap, sym, ◌∙◌, arith}
use Rattle.std.proofs.lemmas.Bool.Decides.{nat_tests}
use Rattle.ldp_spelling.proofs.Joins.{point_joined}
use Rattle.ldp_spelling.proofs.decimal.is_pointed.Goals as goal

pub returns-in-Some-behind : goal.returns-in-Some-behind
returns-in-Some-behind c =
    let some : 0 < length c.args.digits.now = let none : (length c.args.digits.now == 0) ≡ false =
    sym c.is_empty.ensures ∙ c.if-is_empty.false in grind (arith, nat_tests) in
    c.eq.ensures
    ∙ sym (point_joined c.args.text.now c.in-Some.text.now c.in-Some-behind.rest.now
    c.args.count c.args.digits.now some c.in-Some.ensures
    (c.in-Some-behind.ensures ∙ ap (λ zs. zs ++ c.in-Some-behind.rest.now) c.zeros.ensures))
