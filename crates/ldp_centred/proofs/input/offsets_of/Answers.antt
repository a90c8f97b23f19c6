use Rattle.std.proofs.Common.{◌-ℤ◌, arith}
use Rattle.std.proofs.lemmas.Int.{ints}
use Rattle.ldp_num.specs.Number.{IsNumber}
use Rattle.ldp_centred.proofs.Casts.{number-passed}
use Rattle.ldp_centred.proofs.input.offsets_of.Goals as goal

pub returns : goal.returns
returns c =
    let low-number : IsNumber (c.low.result -ℤ c.middle_of-centre.result) =
    record { low = omega (arith, ints); high = omega (arith, ints) } in
    let high-number : IsNumber (c.high.result -ℤ c.middle_of-centre.result) =
    record { low = omega (arith, ints); high = omega (arith, ints) } in
    rw c.spanned.ensures
    (simp (
      number-passed (c.low.result -ℤ c.middle_of-centre.result) low-number,
      number-passed (c.high.result -ℤ c.middle_of-centre.result) high-number,
      number-passed c.middle_of-centre.result c.middle_of-centre.ensures.number,
      number-passed c.low.result c.low.ensures.number,
      number-passed c.high.result c.high.ensures.number,
    )
    (rw (c.low.ensures.value, c.high.ensures.value, c.middle_of-centre.ensures.value)))
