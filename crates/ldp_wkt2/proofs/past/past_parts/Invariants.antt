use Rattle.std.proofs.Common.{◌≡◌, ◌≤◌, drop, length}
use Rattle.std.specs.List.{flat_map}
use Rattle.ldp_wkt2.specs.Reading.{rest_behind}
use Rattle.ldp_wkt2.proofs.past.past_parts.Given as goal

abbrev pub invariant-loop-part : goal.invariant-loop-part
invariant-loop-part l = record {
  same : rest_behind (flat_map (λ part. part.now) (drop l.part-index l.parts)) l.left
      ≡ rest_behind (flat_map (λ part. part.now) l.parts) l.fn.text;
  shorter : length l.left ≤ length l.fn.text;
}
