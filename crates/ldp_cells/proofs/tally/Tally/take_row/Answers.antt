use Rattle.std.proofs.Common.{◌≡◌, ◌+◌, ◌*◌, ◌≤◌, subst, sym, ◌∙◌, arith}
use Rattle.ldp_cells.specs.Tallies.{Tally, IsTally}
use Rattle.ldp_cells.proofs.Places.{place_taken, place_skipped}
use Rattle.ldp_cells.proofs.Tallied.{place_counted}
use Rattle.ldp_cells.proofs.tally.Tally.take_row.Goals as goal
use Rattle.ldp_cells.proofs.tally.Tally.take_row.Goals.{then-marks-column+in_ok-take}
use Rattle.ldp_cells.proofs.tally.Tally.take_row.Goals.{else-marks-column}

pub loop-column-preserved : goal.loop-column-preserved
loop-column-preserved c =
    let grid = c.args.heights.now in
    let row = c.args.row in
    let column = c.loop-column.column in
    let old = c.loop-column.self in
    let next : row * grid.cols + (column + 1) ≡ row * grid.cols + column + 1 = omega arith in
    record {
      few = elim c.if-marks-column.branch [
        | then-marks-column+in_ok-take w ↦
            let P : Tally → Type 0 = λ t. t.count + t.missing ≤ row * grid.cols + (column + 1) in
            subst P (sym (w.self-is ∙ w.in_ok-take.ensures))
            (omega (arith, place_counted grid row column old))
        | else-marks-column w ↦ rw w.self-is (omega arith)
      ];
      tally = λ test marks before.
          let so_far = c.loop-column.invariant.tally test marks before in
          rw next (elim c.if-marks-column.branch [
            | then-marks-column+in_ok-take w ↦
                subst (IsTally test grid (row * grid.cols + column + 1))
                (sym (w.self-is ∙ w.in_ok-take.ensures))
                (place_taken test grid row column old c.requires.row (omega arith)
                (sym (marks column (omega arith)) ∙ w.if-marks-column.true) so_far)
            | else-marks-column w ↦ rw w.self-is
                (place_skipped test grid row column old c.requires.row (omega arith)
                (sym (marks column (omega arith)) ∙ w.if-marks-column.false) so_far)
          ]);
    }
