use Rattle.std.proofs.Common.{take}
use Rattle.ldp_series.specs.Cut.{AreMoved}
use Rattle.ldp_series.proofs.cut.moved_outs.Given as goal

abbrev pub invariant-loop-out : goal.invariant-loop-out
invariant-loop-out l = AreMoved l.places (take l.out-index l.outs) l.moved.items
