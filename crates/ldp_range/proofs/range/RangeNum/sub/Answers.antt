use Rattle.std.proofs.Common.{◌-ℤ◌, arith}
use Rattle.std.proofs.lemmas.Int.{ints}
use Rattle.ldp_range.proofs.Casts.{number-passed}
use Rattle.ldp_range.proofs.Hulls.{number-ordered}
use Rattle.ldp_range.proofs.range.RangeNum.sub.Goals as goal

pub paired-requires-clause-ordered : goal.paired-requires-clause-ordered
paired-requires-clause-ordered c =
    let a = number-passed c.self.inside.lo c.self.invariant.low_number in
    let b = number-passed c.self.inside.hi c.self.invariant.high_number in
    let d = number-passed c.other.inside.lo c.other.invariant.low_number in
    let e = number-passed c.other.inside.hi c.other.invariant.high_number in
    let first = rw (a, e) at c.sub.ensures.value in
    let last = rw (b, d) at c.sub-2.ensures.value in
    rw (first, last)
    (number-ordered (c.self.inside.lo -ℤ c.other.inside.hi) (c.self.inside.hi -ℤ c.other.inside.lo)
    (omega (arith, ints)))
