use Rattle.std.proofs.Common.{◌≡◌, ◌+◌, drop, IsTrue}
use Rattle.ldp_heights.specs.Stages.{is_started}
use Rattle.ldp_heights.specs.Pieces.{go}
use Rattle.ldp_heights.proofs.reading.Reading.feed.Given as goal

abbrev pub invariant-loop-byte : goal.invariant-loop-byte
invariant-loop-byte l = record {
  same : go l.self (drop l.byte-index l.piece) ≡ go l.fn.self l.piece;
  count : l.self.taken ≡ l.fn.self.taken + l.byte-index;
  started : IsTrue (is_started l.fn.self.sofar) → IsTrue (is_started l.self.sofar);
}
