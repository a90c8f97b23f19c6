use Rattle.std.proofs.Common.{◌≡◌, ◌++◌, ℕ, List, length, map, ap, ◌∙◌}
use Rattle.ldp_table.specs.declared.row.Row.{Row}
use Rattle.ldp_table.specs.Bands.{edges, counts_of}
use Rattle.ldp_spelling.specs.Texts.{lines_text}
use Rattle.ldp_table.specs.Texts.{row_words, cells_words, bands_words, table_text}
use Rattle.ldp_table.proofs.Lined.{table_is}
use Rattle.ldp_table.proofs.table.text_of.Goals as goal

pub returns : goal.returns
unfolding table_text
returns c =
    let rows : List Row = c.args.rows.now in
    let bands : c.push_bands.new.text
    ≡ c.push_cells.new.text ++ lines_text (bands_words edges (counts_of rows)) =
    c.in_ok-push_bands.ensures
    ∙ ap (λ (x : List ℕ). c.push_cells.new.text ++ lines_text (bands_words edges x))
    c.counts_of.ensures in
    table_is c.new-text.result c.push_rows.new.text c.push_cells.new.text c.push_bands.new.text
    (map row_words rows) (bands_words edges (counts_of rows))
    (cells_words (length rows) c.args.missing)
    c.new-text.ensures c.in_ok-push_rows.ensures c.in_ok-push_cells.ensures bands
