use Rattle.ldp_optimum.proofs.Trees.{split_counts, trees_have_nodes}
use Rattle.ldp_optimum.proofs.laws.tree_counts.Goals as goal

pub returns-clause-split : goal.returns-clause-split
returns-clause-split c = split_counts

pub returns-clause-few : goal.returns-clause-few
returns-clause-few c = trees_have_nodes
