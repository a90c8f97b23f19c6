use Rattle.std.proofs.Common.{◌≡◌, ◌<◌, ◌+◌, ◌%◌, ◌^◌, ℕ, List, length, drop, decimal, ap, ◌∙◌}
use Rattle.std.proofs.Common.{arith}
use Rattle.ldp_decimal.proofs.Numerals.{one_before}
use Rattle.ldp_decimal.proofs.write.further.Goals as goal

pub behind_first-requires : goal.behind_first-requires
behind_first-requires c =
    let rest : c.args.magnitude % 10 ^ c.args.places < 10 ^ c.args.places =
    omega (arith, c.power_of_ten-unit.ensures) in
    let same = one_before c.args.places (c.args.magnitude % 10 ^ c.args.places) c.requires rest in
    let written : c.as_bytes.result.now
    ≡ decimal (10 ^ c.args.places + c.args.magnitude % 10 ^ c.args.places) =
    c.as_bytes.ensures.value
    ∙ (c.format.ensures.text ∙ ap (λ u. decimal (u + c.args.magnitude % u))
    c.power_of_ten-unit.ensures.value) in
    omega (arith, ap (λ (ds : List ℕ). length ds) (written ∙ same))

pub returns : goal.returns
returns c =
    let rest : c.args.magnitude % 10 ^ c.args.places < 10 ^ c.args.places =
    omega (arith, c.power_of_ten-unit.ensures) in
    let same = one_before c.args.places (c.args.magnitude % 10 ^ c.args.places) c.requires rest in
    let written : c.as_bytes.result.now
    ≡ decimal (10 ^ c.args.places + c.args.magnitude % 10 ^ c.args.places) =
    c.as_bytes.ensures.value
    ∙ (c.format.ensures.text ∙ ap (λ u. decimal (u + c.args.magnitude % u))
    c.power_of_ten-unit.ensures.value) in
    c.behind_first.ensures ∙ ap (λ (ds : List ℕ). drop 1 ds) (written ∙ same)
