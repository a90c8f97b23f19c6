use Rattle.std.proofs.Common.{ap, sym, ◌∙◌, ℕ}
use Rattle.std.specs.Prelude.{Option}
use Rattle.ldp_bound.proofs.Sweeps.{same_sizes}
use Rattle.ldp_bound.proofs.sizes.size.Goals as goal

pub returns : goal.returns
returns c =
    c.size_at.ensures.value
    ∙ sym (ap (λ (f : ℕ → Option ℕ). f c.args.cell)
    (same_sizes c.args.kept.now.grids.families c.args.kept.now.kinds c.args.d.now
    c.in_ok-stretched.stretched.now c.prepared.result.now c.begun.new.inputs
    c.in_ok-stretched.ensures.tells c.prepared.ensures))
