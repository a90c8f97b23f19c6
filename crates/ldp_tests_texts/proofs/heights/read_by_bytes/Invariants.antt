use Rattle.std.proofs.Common.{◌≡◌}
use Rattle.ldp_heights.specs.Pieces.{bytes_taken}
use Rattle.ldp_tests_texts.proofs.heights.read_by_bytes.Given as goal

abbrev pub invariant-loop-byte : goal.invariant-loop-byte
invariant-loop-byte l = bytes_taken l.reader ≡ l.byte-index
