use Rattle.std.proofs.Common.{◌≡◌, ℕ, ◌%◌, ◌^◌, ◌<◌, ◌≤◌, unsigned_abs, to_z, of_z, decimal}
use Rattle.std.proofs.Common.{ap, sym, ◌∙◌, arith}
use Rattle.std.specs.Int.{w128}
use Rattle.std.proofs.lemmas.Int.{to_z-of_z}
use Rattle.std.proofs.Math.Nat.{one-le-pow, pow-le-pow_right}
use Rattle.ldp_decimal.specs.Writing.{sign, whole_digits}
use Rattle.ldp_decimal.specs.Writing.{decimal_text}
use Rattle.ldp_spelling.proofs.Joins.{fixed_test, not_joined}
use Rattle.ldp_spelling.proofs.decimal.is_fixed.Goals as goal

pub returns-in-Some : goal.returns-in-Some
unfolding decimal_text
returns-in-Some c =
    let same : to_z w128 (of_z w128 c.args.number) ≡ c.args.number =
    to_z-of_z w128 c.args.number c.ranges.number in
    let m : ℕ = unsigned_abs c.args.number % 10 ^ c.args.places in
    let magnitude : c.unsigned_abs.result ≡ unsigned_abs c.args.number =
    c.unsigned_abs.ensures.value ∙ ap unsigned_abs same in
    let number : c.unsigned_abs.result % c.unit_of.result ≡ m =
    ap (λ k. k % c.unit_of.result) magnitude
    ∙ ap (λ u. unsigned_abs c.args.number % u) c.unit_of.ensures.value in
    let digits : c.as_bytes-digits.result.now ≡ decimal m = c.as_bytes-digits.ensures.value
    ∙ (c.format.ensures.text ∙ ap decimal number) in
    let joined = rw same at c.in-Some.ensures in
    let small : m < 2 ^ 64 =
    let wide : 10 ^ c.args.places ≤ 10 ^ 15 = pow-le-pow_right (omega arith) c.requires.1 in
    let positive : 1 ≤ 10 ^ c.args.places = one-le-pow c.args.places 10 (omega arith) in
    omega arith in
    let test =
    fixed_test c.args.places m c.saturating_sub-count.result c.as_bytes-digits.result.now
    c.args.text.now (sign c.args.number)
    (whole_digits c.args.places (unsigned_abs c.args.number)) c.in-Some.rest.now c.requires.0
    small digits c.saturating_sub-count.ensures joined in
    c.is_pointed.ensures ∙ sym test

pub returns-in-None : goal.returns-in-None
unfolding decimal_text
returns-in-None c =
    let same : to_z w128 (of_z w128 c.args.number) ≡ c.args.number =
    to_z-of_z w128 c.args.number c.ranges.number in
    sym (not_joined c.args.text.now (sign c.args.number)
    (whole_digits c.args.places (unsigned_abs c.args.number)) _ (rw same at c.in-None.ensures))
