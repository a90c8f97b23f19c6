use Rattle.std.proofs.Common.{◌+◌, ap, subst, ◌∙◌, arith}
use Rattle.ldp_sweep.specs.Cut.{Cut}
use Rattle.ldp_sweep.specs.Tally.{number_at}
use Rattle.ldp_sweep.specs.Peaks.{IsAtCell}
use Rattle.ldp_sweep.proofs.Values.{over_at_most, at_most_one}
use Rattle.ldp_sweep.proofs.Tallies.{tally_more}
use Rattle.ldp_sweep.proofs.tally.look_at.Goals as goal

pub overflow_add-tally : goal.overflow_add-tally
overflow_add-tally g c =
    omega (
      arith,
      c.loop-cell.invariant.tally.over,
      over_at_most (number_at (g.S.Sweep.cut c.args.sweep.now).value) c.args.tolerance
          c.loop-cell.cell,
      c.above.ensures,
      at_most_one c.args.tolerance c.in-Some.peak.value,
      c.loop-cell-test.true,
    )

pub loop-cell-preserved : goal.loop-cell-preserved
loop-cell-preserved g c =
    let so_far = c.loop-cell.invariant in
    let cut : Cut = g.S.Sweep.cut c.args.sweep.now in
    let at_cell : IsAtCell cut c.in-Some.peak =
    subst (λ (now : Cut). IsAtCell now c.in-Some.peak) so_far.same c.in-Some.ensures.at_cell in
    record {
      tally =
          tally_more cut c.args.tolerance c.loop-cell.cell c.loop-cell.tally
          (record {
            over = c.loop-cell.tally.over + c.above.result;
            peak = c.or-tally.result;
          })
          c.in-Some.peak so_far.tally at_cell c.in-Some.ensures.cell
          (ap (λ n. c.loop-cell.tally.over + n) c.above.ensures) c.or-tally.ensures.one
          c.or-tally.ensures.left c.or-tally.ensures.right;
      same = c.in-Some.ensures.same ∙ so_far.same;
    }
