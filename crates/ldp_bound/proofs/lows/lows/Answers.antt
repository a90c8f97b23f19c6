use Rattle.std.proofs.Common.{ap, sym, ◌∙◌, ℕ}
use Rattle.ldp_problem.specs.Costs.{at_cells}
use Rattle.ldp_bound.specs.Kept.{kept_lower}
use Rattle.ldp_bound.specs.Summary.{tally_of}
use Rattle.ldp_bound.proofs.Loops.{all_zero}
use Rattle.ldp_bound.proofs.Sweeps.{same_lows}
use Rattle.ldp_bound.proofs.lows.lows.Goals as goal

pub returns-in_default-clause-value : goal.returns-in_default-clause-value
returns-in_default-clause-value c =
    all_zero (kept_lower c.args.kept.now.grids.families c.args.kept.now.kinds c.args.b.now)
    c.args.kept.now.tolerance c.none.result
    c.args.kept.now.count (c.none.ensures.value c.args.kept.now.tolerance) c.none.ensures.zero
    c.in_default.ensures.none

pub returns-clause-value : goal.returns-clause-value
returns-clause-value c =
    c.told.ensures.value
    ∙ ap (λ (f : ℕ → ℕ). tally_of c.args.kept.now.tolerance (at_cells f c.args.kept.now.count))
    (sym (same_lows c.args.kept.now.grids.families c.args.kept.now.kinds c.args.b.now
    c.in-Some.stretched.now c.prepared.result.now c.begun.new.inputs c.in-Some.ensures.tells
    c.prepared.ensures))
