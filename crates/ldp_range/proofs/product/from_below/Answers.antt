use Rattle.ldp_range.proofs.Casts.{number-passed}
use Rattle.ldp_range.proofs.Corners.{pair_mul-comm}
use Rattle.ldp_range.proofs.product.from_below.Goals as goal

pub returns-then-hi-le0 : goal.returns-then-hi-le0
returns-then-hi-le0 c =
    let a = number-passed c.args.lo c.requires.left.low_number in
    let b = number-passed c.args.hi c.requires.left.high_number in
    let d = number-passed c.args.low c.requires.right.low_number in
    let e = number-passed c.args.high c.requires.right.high_number in
    let turned = rw (a, b, d, e) at c.turned-then-hi-le0.ensures in
    rw turned (pair_mul-comm (c.args.low, c.args.high) (c.args.lo, c.args.hi))
