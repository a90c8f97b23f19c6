use Rattle.std.proofs.Common.{◌≡◌, length}
use Rattle.ldp_alignment.specs.Reading.{stations_from, line_of}
use Rattle.ldp_alignment.proofs.read.read_line.Given as goal

abbrev pub invariant-loop-token : goal.invariant-loop-token
invariant-loop-token l = stations_from (length l.text) l.reader l.tokens ≡ line_of l.text

abbrev pub decreases-loop-token : goal.decreases-loop-token
decreases-loop-token l = length l.tokens
