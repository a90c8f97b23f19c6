use Rattle.std.proofs.Common.{◌≡◌, [], take, ap, sym, ◌∙◌, arith}
use Rattle.ldp_decimal.specs.Writing.{without_zeros}
use Rattle.ldp_decimal.proofs.Numerals.{last_zero, last_other}
use Rattle.ldp_decimal.proofs.write.trimmed.Goals as goal
use Rattle.ldp_decimal.proofs.write.trimmed.Goals.{then-loop-kept-test+else-digits-kept-eq48}
use Rattle.ldp_decimal.proofs.write.trimmed.Goals.{else-loop-kept-test}

pub loop-kept-preserved : goal.loop-kept-preserved
loop-kept-preserved c = record {
  within = omega arith;
  same = last_zero c.args.digits.now c.loop-kept.kept c.loop-kept-test.true
      c.loop-kept.invariant.within c.if-digits-kept-eq48.true ∙ c.loop-kept.invariant.same;
}

pub returns : goal.returns
returns c =
    elim c.loop-kept-test.branch [
      | then-loop-kept-test+else-digits-kept-eq48 w ↦
          last_other c.args.digits.now c.loop-kept.kept w.loop-kept-test.true
          c.loop-kept.invariant.within w.if-digits-kept-eq48.false ∙ c.loop-kept.invariant.same
      | else-loop-kept-test w ↦
          let none : c.loop-kept.kept ≡ 0 = omega (arith, w.loop-kept-test) in
          let empty : take c.loop-kept.kept c.args.digits.now ≡ [] =
          ap (λ k. take k c.args.digits.now) none in
          empty ∙ (ap without_zeros (sym empty) ∙ c.loop-kept.invariant.same)
    ]
