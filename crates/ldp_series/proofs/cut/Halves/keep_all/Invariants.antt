use Rattle.ldp_series.specs.Cut.{StillParts}
use Rattle.ldp_series.proofs.cut.Halves.keep_all.Given as goal

abbrev pub invariant-loop-place : goal.invariant-loop-place
invariant-loop-place l = StillParts l.fn.self l.self
