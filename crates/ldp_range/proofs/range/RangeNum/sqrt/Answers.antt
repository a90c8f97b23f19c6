use Rattle.ldp_range.proofs.Casts.{number-passed}
use Rattle.ldp_range.proofs.Corners.{root-ordered}
use Rattle.ldp_range.proofs.range.RangeNum.sqrt.Goals as goal

pub paired-requires-clause-ordered : goal.paired-requires-clause-ordered
paired-requires-clause-ordered c =
    let a = number-passed c.self.inside.lo c.self.invariant.low_number in
    let b = number-passed c.self.inside.hi c.self.invariant.high_number in
    let first = rw a at c.sqrt.ensures.value in
    let last = rw b at c.sqrt-2.ensures.value in
    rw (first, last) (root-ordered c.self.inside.lo c.self.inside.hi c.self.invariant.ordered)
