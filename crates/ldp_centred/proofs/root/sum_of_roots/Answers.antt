use Rattle.ldp_centred.proofs.Casts.{number-passed}
use Rattle.ldp_centred.proofs.Parts.{sums-ordered}
use Rattle.ldp_centred.proofs.root.sum_of_roots.Goals as goal

pub paired-requires-clause-ordered : goal.paired-requires-clause-ordered
paired-requires-clause-ordered c = λ l h d e.
    let p = number-passed c.args.centre c.requires in
    let q = number-passed c.low.result c.low.ensures.number in
    let r = number-passed c.high.result c.high.ensures.number in
    let first = rw (p, q, c.low.ensures.value) at c.add.ensures.value in
    let last = rw (p, r, c.high.ensures.value) at c.add-2.ensures.value in
    sums-ordered c.args.range.0 c.args.range.1 c.args.centre l h
    (rw c.low.ensures.value at c.low.ensures.ordered) (rw first at d)
    (rw (c.increased.ensures.value, last) at e)

pub returns : goal.returns
returns c =
    let p = number-passed c.args.centre c.requires in
    let q = number-passed c.low.result c.low.ensures.number in
    let r = number-passed c.high.result c.high.ensures.number in
    rw (
      c.paired.ensures,
      c.add.ensures.value,
      c.increased.ensures.value,
      c.add-2.ensures.value,
    )
    (simp (p, q, r) (rw (c.low.ensures.value, c.high.ensures.value)))
