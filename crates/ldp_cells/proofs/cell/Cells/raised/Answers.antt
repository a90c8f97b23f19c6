use Rattle.std.proofs.Common.{ap, sym, ◌∙◌, ◌++◌, ◌∷◌, [], List, pos, take, ℤ, to_z, of_z}
use Rattle.std.specs.Int.{w32}
use Rattle.std.proofs.lemmas.List.Elements.{All-push}
use Rattle.ldp_cells.specs.Range.{IsInRange, raised}
use Rattle.ldp_cells.specs.declared.cell.Cell.{Cell}
use Rattle.ldp_cells.proofs.Raised.{raised_more}
use Rattle.ldp_cells.proofs.cell.Cells.raised.Goals as goal

pub loop-cell-preserved : goal.loop-cell-preserved
loop-cell-preserved c =
    let none : Cell = record { row = 0; col = 0; x = pos 0; y = pos 0; mm = pos 0 } in
    let by : ℤ = to_z w32 (of_z w32 c.args.by) in
    let so_far = c.loop-cell.invariant in
    let done = c.loop-cell.cells.items in
    let cells = c.deref-cell-items.result.now in
    let higher : List Cell = raised by (take c.loop-cell.cell-index cells) in
    record {
      raised = c.in_ok-push.ensures.items
          ∙ ap (λ (cells : List Cell). cells ++ c.raised.result ∷ []) so_far.raised
          ∙ ap (λ (cell : Cell). higher ++ cell ∷ []) c.raised.ensures.value
          ∙ sym (raised_more by cells c.loop-cell.cell-index none c.loop-cell-test.true);
      in_range = rw c.in_ok-push.ensures.items
          (All-push IsInRange done c.raised.result so_far.in_range c.raised.ensures.range);
    }
