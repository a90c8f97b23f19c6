use Rattle.std.proofs.Common.{◌≡◌, ◌-◌, ℕ, take, sym, ap, ◌∙◌, arith}
use Rattle.ldp_decimal.specs.Grammar.{value, value_after}
use Rattle.ldp_decimal.specs.Scanned.{digits_seen}
use Rattle.ldp_decimal.proofs.Digits.{digits_take, front_value, value_grows}
use Rattle.ldp_decimal.proofs.round.leading.Goals as goal

pub more_digits-requires-clause-digits : goal.more_digits-requires-clause-digits
more_digits-requires-clause-digits c = digits_take _ _ c.requires.range.whole

pub more_digits-requires-2-clause-digits : goal.more_digits-requires-2-clause-digits
more_digits-requires-2-clause-digits c = digits_take _ _ c.requires.range.fraction

pub returns-in_err-number : goal.returns-in_err-number
returns-in_err-number c =
    let whole = front_value c.args.count c.args.scanned.now.whole.now
    c.args.scanned.now.fraction.now c.min-from_whole.result c.min-from_whole.ensures in
    let more = value_grows (value (take c.min-from_whole.result c.args.scanned.now.whole.now))
    (take (c.args.count - c.min-from_whole.result) c.args.scanned.now.fraction.now) in
    rw c.from_residual.ensures (omega (arith, whole, more, c.in_err-number.ensures))

pub returns : goal.returns
returns c =
    let rest : ℕ → ℕ =
    λ n. value_after n
    (take (c.args.count - c.min-from_whole.result) c.args.scanned.now.fraction.now) in
    let whole : value (take c.args.count (digits_seen c.args.scanned.now))
    ≡ rest c.in_ok-number.number =
    front_value c.args.count c.args.scanned.now.whole.now c.args.scanned.now.fraction.now
    c.min-from_whole.result c.min-from_whole.ensures
    ∙ ap rest (sym c.in_ok-number.ensures.0) in
    rw whole c.more_digits-2.ensures
