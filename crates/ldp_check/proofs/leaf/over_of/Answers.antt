use Rattle.std.proofs.Common.{sym, ◌∙◌}
use Rattle.ldp_check.proofs.Answered.{low_over}
use Rattle.ldp_check.proofs.leaf.over_of.Goals as goal

pub returns-in-Low-clause-value : goal.returns-in-Low-clause-value
returns-in-Low-clause-value g c =
    low_over (g.B.Bounds.problem c.args.bounds.now) c.args.b.now c.in-Low.over c.in-Low.cell
    c.in-Low.value
    (sym c.in-Low.is ∙ c.bound.ensures.value)
