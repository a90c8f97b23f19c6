use Rattle.ldp_optimum.proofs.Trees.{tree_unusable, tree_closed, tree_split, trees_are_trees}
use Rattle.ldp_optimum.proofs.laws.trees.Goals as goal

pub returns-clause-unusable : goal.returns-clause-unusable
returns-clause-unusable c = tree_unusable

pub returns-clause-closed : goal.returns-clause-closed
returns-clause-closed c = tree_closed

pub returns-clause-split : goal.returns-clause-split
returns-clause-split c = tree_split

pub returns-clause-grammar : goal.returns-clause-grammar
returns-clause-grammar c = trees_are_trees
