use Rattle.std.proofs.Common.{◌+◌, length, ap, arith, length-append}
use Rattle.std.proofs.lemmas.List.{take_all}
use Rattle.ldp_decimal.specs.Grammar.{value}
use Rattle.ldp_decimal.specs.Scanned.{digits_seen}
use Rattle.ldp_decimal.proofs.Digits.{shifted_grows, shifted_far}
use Rattle.ldp_decimal.proofs.round.with_zeros.Goals as goal

pub returns-in_err-number : goal.returns-in_err-number
returns-in_err-number c =
    let size = length-append c.args.scanned.now.whole.now c.args.scanned.now.fraction.now in
    let all = ap value
    (take_all (length c.args.scanned.now.whole.now + length c.args.scanned.now.fraction.now)
    (digits_seen c.args.scanned.now) (omega (arith, size))) in
    rw c.from_residual.ensures
    (omega (
      arith,
      all,
      shifted_grows (value (digits_seen c.args.scanned.now)) c.args.zeros,
      c.in_err-number.ensures,
    ))

pub returns-then-zeros-gt19 : goal.returns-then-zeros-gt19
returns-then-zeros-gt19 c =
    let size = length-append c.args.scanned.now.whole.now c.args.scanned.now.fraction.now in
    let all = ap value
    (take_all (length c.args.scanned.now.whole.now + length c.args.scanned.now.fraction.now)
    (digits_seen c.args.scanned.now) (omega (arith, size))) in
    omega (
      arith,
      all,
      shifted_far (value (digits_seen c.args.scanned.now)) c.args.zeros
          (omega (arith, all, c.in_ok-number.ensures)) c.if-zeros-gt19.true,
    )
