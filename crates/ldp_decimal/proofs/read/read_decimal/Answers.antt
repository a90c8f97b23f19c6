use Rattle.std.proofs.Common.{◌≡◌, ◌≤◌, ℕ, Ok, Result, ℤ, ap, sym, ◌∙◌, arith, unsigned_abs}
use Rattle.std.proofs.Common.{FitsSigned, to_z, of_z}
use Rattle.std.specs.Int.{w128}
use Rattle.std.proofs.lemmas.Int.{to_z-of_z, fits_signed_from_abs, ints}
use Rattle.ldp_decimal.specs.declared.fault.NumFault.{NumFault}
use Rattle.ldp_decimal.specs.Fraction.{with_sign}
use Rattle.ldp_decimal.specs.Scanned.{parts_seen}
use Rattle.ldp_decimal.proofs.Limited.{abs_is, read_none, read_some, read_large}
use Rattle.ldp_decimal.proofs.read.read_decimal.Goals as goal

pub returns-in_default-clause-value : goal.returns-in_default-clause-value
returns-in_default-clause-value c =
    sym (read_none c.args.places (unsigned_abs c.args.limit) c.args.text.now
    c.in_default.ensures.value)

pub returns-in-Some-magnitude_within-clause-value :
    goal.returns-in-Some-magnitude_within-clause-value
returns-in-Some-magnitude_within-clause-value c =
    let n : ℕ = c.in-Some-magnitude_within.magnitude in
    let cast : c.unsigned_abs.result ≡ unsigned_abs c.args.limit =
    c.unsigned_abs.ensures.value ∙ ap unsigned_abs (to_z-of_z w128 c.args.limit c.ranges.limit)
    in
    let number = read_some c.args.places (unsigned_abs c.args.limit) c.args.text.now
    (parts_seen c.in-Some.scanned) c.in-Some-magnitude_within.magnitude c.in-Some.ensures.value
    c.in-Some-magnitude_within.ensures.0 (omega (arith, c.in-Some-magnitude_within.ensures, cast))
    in
    let small : n ≤ 10000000000000000000 =
    omega (arith, ints, c.in-Some-magnitude_within.ensures, c.unsigned_abs.ensures.value) in
    let fits : FitsSigned w128 (with_sign c.in-Some.scanned.negative n) =
    fits_signed_from_abs w128 (with_sign c.in-Some.scanned.negative n)
    (omega (arith, abs_is c.in-Some.scanned.negative n)) in
    let kept : to_z w128 (of_z w128 c.signed.result) ≡ with_sign c.in-Some.scanned.negative n =
    ap (λ z. to_z w128 (of_z w128 z)) c.signed.ensures
    ∙ to_z-of_z w128 (with_sign c.in-Some.scanned.negative n) fits in
    let answer : ℤ → Result ℤ NumFault = λ z. Ok z in
    ap answer kept ∙ sym number

pub returns-in-None-clause-value : goal.returns-in-None-clause-value
returns-in-None-clause-value c =
    let cast : c.unsigned_abs.result ≡ unsigned_abs c.args.limit =
    c.unsigned_abs.ensures.value ∙ ap unsigned_abs (to_z-of_z w128 c.args.limit c.ranges.limit)
    in
    sym (read_large c.args.places (unsigned_abs c.args.limit) c.args.text.now
    (parts_seen c.in-Some.scanned) c.in-Some.ensures.value
    (omega (arith, c.in-None.ensures, cast)))
