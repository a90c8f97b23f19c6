use Rattle.std.proofs.Common.{arith, ap, ◌∙◌, sym}
use Rattle.ldp_answer.specs.SampleInputs.{next_state}
use Rattle.ldp_answer.proofs.SampleTexts.{state_more, grid_more, grid_whole}
use Rattle.ldp_answer.proofs.sample_grid.sample_grid.Goals as goal

pub loop-place-preserved : goal.loop-place-preserved
loop-place-preserved c = record {
  text = grid_more c.loop-place.text c.push_place.new.text c.args.number c.loop-place.place
      c.loop-place.state c.next_state-state.result c.loop-place.invariant.state
      c.next_state-state.ensures.value c.loop-place.invariant.text c.in_ok-push_place.ensures;
  state = c.next_state-state.ensures.value
      ∙ (ap next_state c.loop-place.invariant.state
      ∙ sym (state_more c.args.number c.loop-place.place));
  range = c.next_state-state.ensures.range;
}

pub returns : goal.returns
returns c =
    grid_whole c.args.number c.loop-place.place c.loop-place.text
    (omega (arith, c.loop-place-test.false, c.loop-place.auto.place-end))
    c.loop-place.invariant.text
