use Rattle.std.proofs.Common.{◌≡◌, ℕ, ◌%◌, ◌^◌, unsigned_abs, to_z, of_z, decimal}
use Rattle.std.proofs.Common.{ap, sym, ◌∙◌}
use Rattle.std.specs.Int.{w128}
use Rattle.std.proofs.lemmas.Int.{to_z-of_z}
use Rattle.ldp_decimal.specs.Writing.{sign, whole_digits}
use Rattle.ldp_decimal.specs.Writing.{trimmed_text}
use Rattle.std.specs.Prelude.{bytes_eq}
use Rattle.ldp_spelling.specs.Numbers.{behind_point}
use Rattle.ldp_spelling.proofs.Joins.{trimmed_test, not_joined}
use Rattle.ldp_spelling.proofs.decimal.is_trimmed.Goals as goal

pub returns-in-Some : goal.returns-in-Some
unfolding trimmed_text
returns-in-Some c =
    let same : to_z w128 (of_z w128 c.args.number) ≡ c.args.number =
    to_z-of_z w128 c.args.number c.ranges.number in
    let m : ℕ = unsigned_abs c.args.number % 10 ^ c.args.places in
    let magnitude : c.unsigned_abs.result ≡ unsigned_abs c.args.number =
    c.unsigned_abs.ensures.value ∙ ap unsigned_abs same in
    let number : c.unsigned_abs.result % c.unit_of.result ≡ m =
    ap (λ k. k % c.unit_of.result) magnitude
    ∙ ap (λ u. unsigned_abs c.args.number % u) c.unit_of.ensures.value in
    let digits : c.as_bytes-digits.result.now ≡ decimal m = c.as_bytes-digits.ensures.value
    ∙ (c.format.ensures.text ∙ ap decimal number) in
    let joined = rw same at c.in-Some.ensures in
    let test =
    trimmed_test c.args.places m c.saturating_sub-count.result c.as_bytes-digits.result.now
    c.args.text.now (sign c.args.number)
    (whole_digits c.args.places (unsigned_abs c.args.number)) c.in-Some.rest.now c.requires.0
    digits c.saturating_sub-count.ensures joined in
    c.is_pointed.ensures
    ∙ (ap (λ ds. bytes_eq (behind_point c.saturating_sub-count.result ds) c.in-Some.rest.now)
    c.trimmed.ensures ∙ sym test)

pub returns-in-None : goal.returns-in-None
unfolding trimmed_text
returns-in-None c =
    let same : to_z w128 (of_z w128 c.args.number) ≡ c.args.number =
    to_z-of_z w128 c.args.number c.ranges.number in
    sym (not_joined c.args.text.now (sign c.args.number)
    (whole_digits c.args.places (unsigned_abs c.args.number)) _ (rw same at c.in-None.ensures))
