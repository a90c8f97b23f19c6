-- What `eval` answers over a grid that was read. Own choice of this project.
use Rattle.std.specs.Prelude.{ℤ, length, false, slice_get, Option, Some, None, Result, Ok, Err}
use Rattle.ldp_tm.specs.TransverseMercator.{transverse_mercator}
use Rattle.ldp_heights.specs.Grid.{HeightGrid}
use Rattle.ldp_cells.specs.Cells.{CellList}
use Rattle.ldp_cells.specs.declared.cell.Cell.{Cell}
use Rattle.ldp_distortion.specs.Distortion.{distortions}
use Rattle.ldp_distortion.specs.Worst.{worst_of}
use Rattle.ldp_distortion.specs.declared.worst.Worst.{Worst}
use Rattle.ldp_distortion.specs.declared.worst.Worst.TheVariants.{Is, Unusable}
use Rattle.ldp_quantity.specs.Results.{◌>>=◌}
use Rattle.ldp_answer.specs.Cells.{area_read}
use Rattle.ldp_answer.specs.Central.{CentralDesign, central_inputs}
use Rattle.ldp_answer.specs.EvalText.{eval_text}
use Rattle.ldp_answer.specs.declared.answer.Answer.{Answer}
use Rattle.ldp_message.specs.declared.refusal.Refusal.{Refusal}
use Rattle.ldp_message.specs.declared.refusal.Refusal.TheVariants as refusals

-- the worst of a transverse Mercator design over the cells
unfoldable pub central_worst : CellList → CentralDesign → Worst
central_worst list design =
    worst_of (distortions transverse_mercator (central_inputs design) list.cells)

-- the answer for a worst at one of the cells; a worst names one, so the second case does not come
abbrev pub answer_at : CellList → ℤ → Option Cell → Result Answer Refusal
answer_at list value (Some cell) =
    Ok record {
      rejected = false;
      text = eval_text (length list.cells) list.missing value cell.row cell.col;
    }
answer_at list value None = Err refusals.NoUsableDesign

-- the answer for a worst; a refusal if the design is undefined at a cell
abbrev pub worst_answer : CellList → Worst → Result Answer Refusal
worst_answer list (Is value cell) = answer_at list value (slice_get list.cells cell)
worst_answer list (Unusable cell) = Err refusals.NoUsableDesign

-- the worst of a central design at all cells of the grid, or why there is none
abbrev pub eval_over : HeightGrid → CentralDesign → Result Answer Refusal
eval_over grid design = do
  list ← area_read grid
  worst_answer list (central_worst list design)
