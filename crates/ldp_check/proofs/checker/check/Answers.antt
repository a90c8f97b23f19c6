use Rattle.std.proofs.Common.{arith}
use Rattle.ldp_check.proofs.Nodes.{few_entries}
use Rattle.ldp_check.proofs.checker.check.Goals as goal

pub with_room-requires : goal.with_room-requires
with_room-requires g c = omega (arith, few_entries c.args.job.now.forest c.requires.forest)
