use Rattle.ldp_check.proofs.Answered.{if_none, always}
use Rattle.ldp_check.proofs.entry.step.Goals as goal

pub returns-in-Split-clause-next : goal.returns-in-Split-clause-next
returns-in-Split-clause-next g c =
    rw c.in-Split.is
    (if_none c.split.result _ _ (λ h. h c.args.grids.now.families c.args.trees.now)
    c.split.ensures.next)

pub returns-in-Leaf-clause-next : goal.returns-in-Leaf-clause-next
returns-in-Leaf-clause-next g c =
    rw c.in-Leaf.is
    (always c.leaf.result _ (c.leaf.ensures.next c.args.grids.now.families c.args.trees.now))

pub returns-in-Unusable-clause-next : goal.returns-in-Unusable-clause-next
returns-in-Unusable-clause-next g c =
    rw c.in-Unusable.is
    (always c.unusable.result _
    (c.unusable.ensures.next c.args.grids.now.families c.args.trees.now))
