use Rattle.std.proofs.Common.{arith, sym, ◌∙◌, []}
use Rattle.ldp_wkt2.proofs.Fronts.{part_none, part_some, is_none}
use Rattle.ldp_wkt2.proofs.past.past_parts.Goals as goal

pub returns-in_err-left-clause-value : goal.returns-in_err-left-clause-value
returns-in_err-left-clause-value c =
    is_none c.from_residual.result _ c.from_residual.ensures
    (sym c.loop-part.invariant.same
    ∙ part_none c.args.parts.now c.loop-part.part-index record { ref_ptr = (0, 0); now = [] }
    c.loop-part.left.now (omega arith) c.in_err-left.ensures.value)

pub loop-part-preserved : goal.loop-part-preserved
loop-part-preserved c = record {
  same = sym (part_some c.args.parts.now c.loop-part.part-index
      record { ref_ptr = (0, 0); now = [] } c.loop-part.left.now c.in_ok-left.left.now
      (omega arith) c.in_ok-left.ensures.value) ∙ c.loop-part.invariant.same;
  shorter = omega (arith, c.in_ok-left.ensures.shorter, c.loop-part.invariant.shorter);
}
