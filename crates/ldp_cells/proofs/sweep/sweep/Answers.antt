use Rattle.std.proofs.Common.{◌-◌, length, arith}
use Rattle.ldp_cells.proofs.Sweeps.{beyond_passed, swept_more, swept_same}
use Rattle.ldp_cells.proofs.sweep.sweep.Goals as goal
use Rattle.ldp_cells.proofs.sweep.sweep.Goals.{then-crossings-passed-eq1, else-crossings-passed-eq1}

pub loop-column-preserved : goal.loop-column-preserved
loop-column-preserved c =
    let crossings = c.args.crossings.now in
    let old = c.args.marks.now in
    let marks = c.loop-column.marks in
    let column = c.loop-column.column in
    let passed = c.passed_at-passed.result in
    let found = c.passed_at-passed.ensures in
    let beyond = beyond_passed column passed crossings c.requires found.few found.before
    found.behind in
    record {
      few = found.few;
      before = λ k h. omega (arith, found.before k h);
      swept = elim c.if-crossings-passed-eq1.branch [
        | then-crossings-passed-eq1 w ↦ rw w.marks-is
            (swept_more crossings old marks column (length crossings - passed) (omega arith) beyond
            c.loop-column.invariant.swept w.if-crossings-passed-eq1.true)
        | else-crossings-passed-eq1 w ↦ rw w.marks-is
            (swept_same crossings old marks column (length crossings - passed) beyond
            c.loop-column.invariant.swept w.if-crossings-passed-eq1.false)
      ];
    }
