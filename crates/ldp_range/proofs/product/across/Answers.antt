use Rattle.ldp_range.proofs.Casts.{number-passed}
use Rattle.ldp_range.proofs.Corners.{across-is, across-below}
use Rattle.ldp_range.proofs.Hulls.{across-ordered}
use Rattle.ldp_range.proofs.Orders.{product}
use Rattle.ldp_range.proofs.product.across.Goals as goal

pub paired-requires-clause-ordered : goal.paired-requires-clause-ordered
paired-requires-clause-ordered c =
    let a = number-passed c.args.lo c.requires.left.low_number in
    let b = number-passed c.args.hi c.requires.left.high_number in
    let d = number-passed c.args.low c.requires.right.low_number in
    let e = number-passed c.args.high c.requires.right.high_number in
    let q = rw (a, e) at c.mul.ensures.value in
    let r = rw (b, d) at c.mul-2.ensures.value in
    let p = rw (a, d) at c.mul-3.ensures.value in
    let s = rw (b, e) at c.mul-4.ensures.value in
    rw (c.least_of.ensures.value, c.greatest_of.ensures.value, q, r, p, s)
    (across-ordered (product c.args.lo c.args.low) (product c.args.lo c.args.high)
    (product c.args.hi c.args.low) (product c.args.hi c.args.high)
    (across-below c.args.lo c.args.hi c.args.low c.args.high c.requires.right.ordered
    c.requires.left_low))

pub returns : goal.returns
returns c =
    let a = number-passed c.args.lo c.requires.left.low_number in
    let b = number-passed c.args.hi c.requires.left.high_number in
    let d = number-passed c.args.low c.requires.right.low_number in
    let e = number-passed c.args.high c.requires.right.high_number in
    let q = rw (a, e) at c.mul.ensures.value in
    let r = rw (b, d) at c.mul-2.ensures.value in
    let p = rw (a, d) at c.mul-3.ensures.value in
    let s = rw (b, e) at c.mul-4.ensures.value in
    rw (c.paired.ensures, c.least_of.ensures.value, c.greatest_of.ensures.value, q, r, p, s)
    (across-is c.args.lo c.args.hi c.args.low c.args.high c.requires.left.ordered
    c.requires.right.ordered c.requires.left_low c.requires.left_high
    c.requires.right_low c.requires.right_high)
