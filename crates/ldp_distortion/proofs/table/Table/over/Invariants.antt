use Rattle.std.proofs.Common.{◌≡◌, ◌*◌, length, map, take}
use Rattle.std.specs.Prelude.{All}
use Rattle.ldp_num.specs.Number.{IsNumber}
use Rattle.ldp_distortion.specs.Distortion.{cell_results}
use Rattle.ldp_distortion.specs.Rows.{rows}
use Rattle.ldp_distortion.proofs.table.Table.over.Given as goal

abbrev pub invariant-loop-cell : goal.invariant-loop-cell
invariant-loop-cell l = record {
  list : l.runs ≡ l.list;
  count : length l.defined.items ≡ l.cell;
  full : length l.numbers.items ≡ l.width * l.cell;
  in_range : All IsNumber l.numbers.items;
  rows : rows l.width l.defined.items l.numbers.items ≡ map (cell_results l.list)
      (take l.cell l.cells.cells);
}
