use Rattle.std.proofs.Common.{◌≡◌, length}
use Rattle.ldp_zone.specs.Grammar.{zone_of}
use Rattle.ldp_zone.proofs.TokensLeft.{rings_from}
use Rattle.ldp_zone.proofs.read.read_zone.Given as goal

abbrev pub invariant-loop-token : goal.invariant-loop-token
invariant-loop-token l = rings_from (length l.text) l.reader l.tokens ≡ zone_of l.text

abbrev pub decreases-loop-token : goal.decreases-loop-token
decreases-loop-token l = length l.tokens
