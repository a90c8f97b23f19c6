use Rattle.std.proofs.Common.{◌≡◌, ◌<◌, ◌^◌, ◌++◌}
use Rattle.std.specs.List.{flat_map, range_with_len}
use Rattle.ldp_answer.specs.SampleInputs.{sample_header, place_text, state_after}
use Rattle.ldp_answer.proofs.sample_grid.sample_grid.Given as goal

abbrev pub invariant-loop-place : goal.invariant-loop-place
invariant-loop-place l = record {
  text : l.text ≡ sample_header ++ flat_map (place_text l.number) (range_with_len 0 l.place);
  state : l.state ≡ state_after l.number l.place;
  range : l.state < 2 ^ 31;
}
