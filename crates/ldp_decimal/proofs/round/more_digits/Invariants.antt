use Rattle.std.proofs.Common.{◌≡◌, ◌≤◌, drop}
use Rattle.ldp_decimal.specs.Grammar.{AreDigits, value_after}
use Rattle.ldp_decimal.proofs.round.more_digits.Given as goal

abbrev pub invariant-loop-digit : goal.invariant-loop-digit
invariant-loop-digit l = record {
  value : value_after l.number (drop l.digit-index l.digits) ≡ value_after l.fn.number l.digits;
  digits : AreDigits (drop l.digit-index l.digits);
  small : l.number ≤ l.limit;
}
