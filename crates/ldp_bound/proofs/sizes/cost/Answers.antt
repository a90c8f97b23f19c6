use Rattle.std.proofs.Common.{ap, sym, ◌∙◌, ℕ, arith}
use Rattle.std.specs.Prelude.{Option}
use Rattle.ldp_bound.specs.Kept.{kept_delta}
use Rattle.ldp_bound.specs.Summary.{cost_over}
use Rattle.ldp_bound.proofs.Loops.{unusable_at}
use Rattle.ldp_bound.proofs.Sweeps.{same_sizes}
use Rattle.ldp_bound.proofs.sizes.cost.Goals as goal

pub returns-clause-value : goal.returns-clause-value
returns-clause-value c =
    c.told.ensures.value
    ∙ ap (λ (f : ℕ → Option ℕ). cost_over c.args.kept.now.tolerance f c.args.kept.now.count)
    (sym (same_sizes c.args.kept.now.grids.families c.args.kept.now.kinds c.args.d.now
    c.in-Some.stretched.now c.prepared.result.now c.begun.new.inputs c.in-Some.ensures.tells
    c.prepared.ensures))

pub returns-in_default-clause-value : goal.returns-in_default-clause-value
returns-in_default-clause-value c =
    unusable_at c.args.kept.now.tolerance
    (kept_delta c.args.kept.now.grids.families c.args.kept.now.kinds c.args.d.now) c.args.kept.now.count
    0
    c.args.kept.now.sound.some_cell (λ k h. absurd (omega (arith, h))) (c.in_default.ensures.none 0)
