use Rattle.ldp_centred.proofs.Casts.{number-passed}
use Rattle.ldp_centred.proofs.quotient.error_of_quotient.Goals as goal

pub returns-clause-value : goal.returns-clause-value
returns-clause-value c =
    let p = number-passed c.args.e c.requires.first.number in
    let q = number-passed c.args.f c.requires.second.number in
    let r = number-passed c.low.result c.low.ensures.number in
    let s = number-passed c.greatest_size.result c.greatest_size.ensures.error.number in
    rw (
      c.more-2.ensures.value,
      c.share.ensures.value,
      c.more.ensures.value,
      c.added.ensures.value,
      c.weighed.ensures.value,
    )
    (simp (p, q, r, s) (rw (c.low.ensures.value, c.greatest_size.ensures.value)))
