use Rattle.ldp_centred.proofs.Casts.{number-passed}
use Rattle.ldp_centred.proofs.lowest.lowest_in.Goals as goal

pub returns-in-Some-clause-value : goal.returns-in-Some-clause-value
returns-in-Some-clause-value c =
    rw (
      number-passed c.least_between.result c.least_between.ensures.error.number,
      c.in-Some.is,
      c.least_between.ensures.value,
      number-passed c.greater.result c.greater.ensures.number,
      number-passed c.lesser.result c.lesser.ensures.number,
      c.greater.ensures.value,
      c.lesser.ensures.value,
      number-passed c.low.result c.low.ensures.number,
      number-passed c.low-in-Some.result c.low-in-Some.ensures.number,
      number-passed c.high.result c.high.ensures.number,
      number-passed c.high-in-Some.result c.high-in-Some.ensures.number,
      c.low.ensures.value,
      c.low-in-Some.ensures.value,
      c.high.ensures.value,
      c.high-in-Some.ensures.value,
    )
