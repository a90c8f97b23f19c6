use Rattle.ldp_spelling.proofs.Texts.{line_more}
use Rattle.ldp_table.proofs.Lined.{row_more}
use Rattle.ldp_table.proofs.table.push_rows.Goals as goal

pub loop-row-preserved : goal.loop-row-preserved
loop-row-preserved c =
    line_more c.args.text.now c.loop-row.text c.push_row.new.text _ _ _ c.loop-row.invariant
    c.in_ok-push_row.ensures
    (row_more c.args.rows.now c.loop-row.row-index _ c.loop-row-test.true)
