use Rattle.std.proofs.Common.{◌≡◌, ◌++◌, ◌∷◌, [], ℕ, ℤ, List, Option, to_z, of_z, IfOk}
use Rattle.std.proofs.Common.{subst, ap, ◌∙◌}
use Rattle.std.specs.Int.{w128}
use Rattle.serde_json.specs.Data.{Data}
use Rattle.serde_json.specs.View.{view}
use Rattle.serde_json.specs.Written.{has_float, compact_text}
use Rattle.ldp_distortion.specs.Distortion.{distortions}
use Rattle.ldp_distortion.specs.Worst.{worst_of}
use Rattle.ldp_table.specs.declared.row.Row.{Row}
use Rattle.ldp_table.specs.Rows.{rows_of}
use Rattle.ldp_table.specs.Objects.{table_data, worst_value, json_text}
use Rattle.ldp_table.proofs.Bounds.{small_number}
use Rattle.ldp_table.proofs.Measured.{distortions_are}
use Rattle.ldp_table.proofs.Printed.{table_plain}
use Rattle.ldp_table.proofs.object.table_json.Goals as goal

pub json_line-requires : goal.json_line-requires
json_line-requires c =
    ap has_float c.in_ok-value.ensures ∙ table_plain c.deref.result.now c.missing.result
    (to_z w128 (of_z w128 c.worst_value-worst.result))

pub returns-clause-text : goal.returns-clause-text
unfolding json_text
returns-clause-text c =
    let cells = c.args.cells.now.cells in
    let found : List (Option ℤ) = distortions c.args.prepared.now.lists c.args.at cells in
    let worst : to_z w128 (of_z w128 c.worst_value-worst.result) ≡ worst_value (worst_of found) =
    (small_number c.worst_value-worst.result c.worst_value-worst.ensures.number).held
    ∙ (c.worst_value-worst.ensures.value
    ∙ ap (λ ds. worst_value (worst_of ds))
    (distortions_are c.args.prepared.now c.args.at cells c.requires.over)) in
    let rows : c.deref.result.now ≡ rows_of cells found = c.deref.ensures.value
    ∙ c.in_ok-rows.ensures.rows in
    let object : view c.in_ok-value.value
    ≡ table_data (rows_of cells found) c.args.cells.now.missing (worst_value (worst_of found)) =
    c.in_ok-value.ensures
    ∙ (ap (λ (x : List Row). table_data x c.missing.result
    (to_z w128 (of_z w128 c.worst_value-worst.result))) rows
    ∙ (ap (λ (n : ℕ). table_data (rows_of cells found) n
    (to_z w128 (of_z w128 c.worst_value-worst.result))) c.missing.ensures
    ∙ ap (λ (z : ℤ). table_data (rows_of cells found) c.args.cells.now.missing z) worst)) in
    subst (λ (d : Data). IfOk c.json_line.result (λ text. text ≡ compact_text d ++ 10 ∷ [])) object
    c.json_line.ensures
