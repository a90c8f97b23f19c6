use Rattle.std.proofs.Common.{arith}
use Rattle.std.proofs.lemmas.Int.{ints, clamps}
use Rattle.ldp_range.proofs.Casts.{number-passed}
use Rattle.ldp_range.proofs.range.greatest.Goals as goal

pub invariant_of-result : goal.invariant_of-result
invariant_of-result c =
    let a = number-passed c.x.inside.lo c.x.invariant.low_number in
    let b = number-passed c.x.inside.hi c.x.invariant.high_number in
    let d = number-passed c.y.inside.lo c.y.invariant.low_number in
    let e = number-passed c.y.inside.hi c.y.invariant.high_number in
    let low = rw (a, d) at c.greater.ensures.value in
    let high = rw (b, e) at c.greater-2.ensures.value in
    rw (
      number-passed c.greater.result c.greater.ensures.number,
      number-passed c.greater-2.result c.greater-2.ensures.number,
    )
    (record {
      low_number = c.greater.ensures.number;
      high_number = c.greater-2.ensures.number;
      ordered = omega
          (arith, ints, clamps, low, high, c.x.invariant.ordered, c.y.invariant.ordered);
    })
