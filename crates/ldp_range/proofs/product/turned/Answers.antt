use Rattle.ldp_range.proofs.Casts.{number-passed}
use Rattle.ldp_range.proofs.Corners.{turned-is, turned-ordered}
use Rattle.ldp_range.proofs.Hulls.{number-ordered}
use Rattle.ldp_range.proofs.product.turned.Goals as goal

pub paired-requires-clause-ordered : goal.paired-requires-clause-ordered
paired-requires-clause-ordered c =
    let a = number-passed c.args.lo c.requires.left.low_number in
    let b = number-passed c.args.hi c.requires.left.high_number in
    let d = number-passed c.args.low c.requires.right.low_number in
    let e = number-passed c.args.high c.requires.right.high_number in
    let f = number-passed c.by_sign.result c.by_sign.ensures.number in
    let first = rw (b, f) at c.mul.ensures.value in
    let last = rw (a, d) at c.mul-2.ensures.value in
    let s = rw (b, d, e) at c.by_sign.ensures.value in
    rw (first, last, s)
    (number-ordered _ _
    (turned-ordered c.args.lo c.args.hi c.args.low c.args.high c.requires.left.ordered
    c.requires.right.ordered c.requires.left_sign c.requires.right_sign))

pub returns : goal.returns
returns c =
    let a = number-passed c.args.lo c.requires.left.low_number in
    let b = number-passed c.args.hi c.requires.left.high_number in
    let d = number-passed c.args.low c.requires.right.low_number in
    let e = number-passed c.args.high c.requires.right.high_number in
    let f = number-passed c.by_sign.result c.by_sign.ensures.number in
    let first = rw (b, f) at c.mul.ensures.value in
    let last = rw (a, d) at c.mul-2.ensures.value in
    let s = rw (b, d, e) at c.by_sign.ensures.value in
    rw (c.paired.ensures, first, last, s)
    (turned-is c.args.lo c.args.hi c.args.low c.args.high c.requires.left.ordered
    c.requires.right.ordered c.requires.left_sign c.requires.right_sign)
