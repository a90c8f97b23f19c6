use Rattle.std.proofs.Common.{List, subst}
use Rattle.ldp_sweep.specs.declared.stretch.Stretch.{Stretch}
use Rattle.ldp_sweep.specs.Grown.{IsGrownFrom}
use Rattle.ldp_sweep.proofs.Nodes.{cut_of}
use Rattle.ldp_sweep.proofs.tree.nodes_of.Goals as goal

pub returns : goal.returns
returns c =
    cut_of c.args.cells c.grow.new.nodes.items c.requires
    (subst (λ (old : List Stretch). IsGrownFrom old c.grow.new.nodes.items 0 c.args.cells)
    c.new-nodes.ensures.items c.in_ok-grow.ensures)
