use Rattle.ldp_range.proofs.Casts.{number-passed}
use Rattle.ldp_range.proofs.range.RangeNum.div.Goals as goal

pub returns : goal.returns
returns c =
    let a = number-passed c.self.inside.lo c.self.invariant.low_number in
    let b = number-passed c.self.inside.hi c.self.invariant.high_number in
    let d = number-passed c.other.inside.lo c.other.invariant.low_number in
    let e = number-passed c.other.inside.hi c.other.invariant.high_number in
    let value = rw (a, b, d, e) at c.quotient.ensures in
    rw (← c.self.view_is, ← c.other.view_is, value)
