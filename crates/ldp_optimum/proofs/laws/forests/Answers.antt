use Rattle.ldp_optimum.proofs.Forests.{next_tree, next_tree_counts, all_trees, first_trees_count}
use Rattle.ldp_optimum.proofs.Forests.{forest_is_shaped}
use Rattle.ldp_optimum.proofs.Sizes.{forest_has_nodes}
use Rattle.ldp_optimum.proofs.laws.forests.Goals as goal

pub returns-clause-next : goal.returns-clause-next
returns-clause-next c = next_tree

pub returns-clause-counts : goal.returns-clause-counts
returns-clause-counts c = next_tree_counts

pub returns-clause-all : goal.returns-clause-all
returns-clause-all c = all_trees

pub returns-clause-fewer : goal.returns-clause-fewer
returns-clause-fewer c = first_trees_count

pub returns-clause-shape : goal.returns-clause-shape
returns-clause-shape c = forest_is_shaped

pub returns-clause-few : goal.returns-clause-few
returns-clause-few c = forest_has_nodes
