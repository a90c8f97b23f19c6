use Rattle.std.proofs.Common.{arith}
use Rattle.ldp_cli.proofs.write_all.write_all.Goals as goal
use Rattle.ldp_cli.proofs.Writes.{grows_on}

pub loop-count-preserved : goal.loop-count-preserved
loop-count-preserved g c = record {
  grown = grows_on _ _ _ _ _ _ c.loop-count.invariant.grown c.in-Took.ensures.grows;
  within = omega (arith, c.in-Took.ensures.took);
  faults_later = omega (arith, c.in-Took.ensures.counts.faults_later);
  wants_later = omega (arith, c.in-Took.ensures.counts.wants_later);
}
