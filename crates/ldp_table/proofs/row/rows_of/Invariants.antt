use Rattle.std.proofs.Common.{◌≡◌, ◌≤◌, All, length, take}
use Rattle.ldp_distortion.specs.Prepared.{distortions_of}
use Rattle.ldp_table.specs.Rows.{rows_of, IsRow}
use Rattle.ldp_table.proofs.row.rows_of.Given as goal

abbrev pub invariant-loop-i : goal.invariant-loop-i
invariant-loop-i l = record {
  rows : l.rows.items
      ≡ rows_of (take l.i l.fn.cells.cells) (take l.i (distortions_of l.fn.prepared l.fn.at));
  each : All IsRow l.rows.items;
  few : length l.rows.items ≤ l.i;
  room : l.bench.room ≡ l.fn.bench.room;
}
