use Rattle.std.proofs.Common.{◌≡◌, pos, ap, arith, rules, ◌∙◌}
use Rattle.std.specs.Prelude.{int_lt, if◌then◌else◌}
use Rattle.std.proofs.lemmas.Int.{to_z-of_z}
use mir.Val.{SFits}
use mir.Syntax.{w128}
use Rattle.ldp_problem.specs.Problem.{Problem}
use Rattle.ldp_check.proofs.Counts.{count_more}
use Rattle.ldp_check.proofs.leaf.count_beyond.Goals as goal

pub loop-cell-preserved : goal.loop-cell-preserved
loop-cell-preserved g c =
    let fits : SFits w128 c.args.tolerance = c.ranges.tolerance in
    let low_fits : SFits w128 c.lower-low.result = search rules in
    let p : Problem = g.B.Bounds.problem c.args.bounds.now in
    let low : c.lower-low.result ≡ pos (p.lower c.args.b.now c.loop-cell.cell) =
    c.lower-low.ensures.value ∙ ap (λ (q : Problem). pos (q.lower c.args.b.now c.loop-cell.cell))
    c.loop-cell.invariant.same in
    let one : c.count_above-over.result ≡ (if int_lt c.args.tolerance c.lower-low.result then 1 else
    0) =
    simp to_z-of_z at c.count_above-over.ensures.count in
    record {
      counted = rw one
          (count_more p.tolerance c.args.tolerance c.lower-low.result (p.lower c.args.b.now)
          c.loop-cell.cell c.loop-cell.over
          c.requires.tolerance c.loop-cell.invariant.counted low);
      few = omega (arith, c.loop-cell.invariant.few, c.count_above-over.ensures.few);
      cells = c.loop-cell.invariant.cells;
      same = c.lower-low.ensures.same ∙ c.loop-cell.invariant.same;
    }
