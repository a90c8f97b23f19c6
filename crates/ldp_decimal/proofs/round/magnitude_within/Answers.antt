use Rattle.std.proofs.Common.{◌+◌, ◌-◌, ℕ, length, arith, refl}
use Rattle.ldp_decimal.proofs.Digits.{digits_append}
use Rattle.ldp_decimal.proofs.Rounding.{magnitude_tiny, magnitude_near, magnitude_exact}
use Rattle.ldp_decimal.proofs.round.magnitude_within.Goals as goal

pub returns-then-reach-lower : goal.returns-then-reach-lower
returns-then-reach-lower c =
    let s = c.args.scanned.now in
    let digits = digits_append s.whole.now s.fraction.now c.requires.range.whole
    c.requires.range.fraction in
    let none = magnitude_tiny s.whole.now s.fraction.now s.raise s.lower c.args.places digits
    c.if-reach-lower.true in
    rw none (refl, omega arith)

pub returns-then-kept-count : goal.returns-then-kept-count
returns-then-kept-count c =
    let s = c.args.scanned.now in
    let digits = digits_append s.whole.now s.fraction.now c.requires.range.whole
    c.requires.range.fraction in
    let same = magnitude_near s.whole.now s.fraction.now s.raise s.lower c.args.places
    (length s.whole.now + s.raise + c.args.places - s.lower) digits (omega arith)
    c.if-kept-count.true in
    rw same c.rounded_after.ensures

pub returns-else-kept-count : goal.returns-else-kept-count
returns-else-kept-count c =
    let s = c.args.scanned.now in
    let zeros : ℕ =
    length s.whole.now + s.raise
    + c.args.places - s.lower - (length s.whole.now + length s.fraction.now) in
    let same = magnitude_exact s.whole.now s.fraction.now s.raise s.lower c.args.places zeros
    (omega arith) in
    rw same c.with_zeros.ensures
