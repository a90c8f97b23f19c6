use Rattle.std.proofs.Common.{◌≡◌, pos, ◌++◌, All, drop, length}
use Rattle.ldp_alignment.specs.Line.{IsStation, AreForward}
use Rattle.ldp_alignment.specs.Placed.{placed, placed_onto}
use Rattle.ldp_alignment.proofs.placing.place.Given as goal

abbrev pub invariant-loop-number : goal.invariant-loop-number
invariant-loop-number l = record {
  same : placed_onto l.heights l.found.items (drop l.number l.stations) ≡ placed l.heights l.line;
  each : length l.found.items ≡ l.number;
  range : All IsStation l.found.items;
  forward : AreForward (pos 0) (l.found.items ++ drop l.number l.stations);
}
