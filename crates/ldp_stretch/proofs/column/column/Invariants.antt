use Rattle.ldp_stretch.specs.Hulls.{HoldsColumn}
use Rattle.ldp_stretch.proofs.column.column.Given as goal

abbrev pub invariant-loop-cell : goal.invariant-loop-cell
invariant-loop-cell l = HoldsColumn l.prepared.results l.from l.cell l.place l.range
