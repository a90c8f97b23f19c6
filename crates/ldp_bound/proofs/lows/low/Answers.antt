use Rattle.std.proofs.Common.{ap, sym, ◌∙◌, ℕ}
use Rattle.ldp_bound.proofs.Sweeps.{same_lows}
use Rattle.ldp_bound.proofs.lows.low.Goals as goal

pub returns-clause-value : goal.returns-clause-value
returns-clause-value c =
    c.low_at.ensures.value
    ∙ sym (ap (λ (f : ℕ → ℕ). f c.args.cell)
    (same_lows c.args.kept.now.grids.families c.args.kept.now.kinds c.args.b.now
    c.in-Some.stretched.now c.prepared.result.now c.begun.new.inputs c.in-Some.ensures.tells
    c.prepared.ensures))
