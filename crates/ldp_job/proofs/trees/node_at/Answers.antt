use Rattle.ldp_job.proofs.Entered.{node_if}
use Rattle.ldp_job.proofs.trees.node_at.Goals as goal

pub returns-clause-node : goal.returns-clause-node
returns-clause-node c = node_if c.args.pending c.args.line.now c.entry_at.result c.entry_at.ensures
