use Rattle.std.proofs.Common.{◌≡◌, ◌++◌, map, take}
use Rattle.ldp_spelling.specs.Texts.{lines_text}
use Rattle.ldp_table.specs.Texts.{row_words}
use Rattle.ldp_table.proofs.table.push_rows.Given as goal

abbrev pub invariant-loop-row : goal.invariant-loop-row
invariant-loop-row l =
    l.text ≡ l.fn.text ++ lines_text (map row_words (take l.row-index l.rows))
