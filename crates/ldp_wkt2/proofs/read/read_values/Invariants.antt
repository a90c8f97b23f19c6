use Rattle.std.proofs.Common.{◌≡◌, ◌≤◌, drop, length}
use Rattle.ldp_wkt2.specs.Fronts.{front_text}
use Rattle.ldp_wkt2.specs.Profile.{parameters_of}
use Rattle.ldp_wkt2.specs.Reading.{read_pieces, pieces_from, pieces_of, blank}
use Rattle.ldp_wkt2.proofs.read.read_values.Given as goal

abbrev pub invariant-loop-parameter : goal.invariant-loop-parameter
invariant-loop-parameter l = record {
  same : read_pieces (length l.fn.text) l.crs l.left
      (pieces_from (front_text l.front) (drop l.parameter-index (parameters_of l.fn.kind)))
      ≡ read_pieces (length l.fn.text) (blank l.fn.kind) l.fn.left (pieces_of l.fn.kind);
  shorter : length l.left ≤ length l.fn.text;
}
