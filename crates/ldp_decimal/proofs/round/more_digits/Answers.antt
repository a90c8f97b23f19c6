use Rattle.ldp_decimal.proofs.Digits.{step_over}
use Rattle.ldp_decimal.proofs.round.more_digits.Goals as goal

pub returns-then-number-limit : goal.returns-then-number-limit
returns-then-number-limit c =
    step_over c.loop-digit.number c.args.digits.now c.loop-digit.digit-index c.args.limit _
    c.loop-digit-test.true c.loop-digit.invariant.value c.if-number-limit.true
