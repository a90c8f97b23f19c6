use Rattle.std.proofs.Common.{◌≡◌, to_z, of_z, arith}
use Rattle.std.specs.Int.{w128}
use Rattle.std.proofs.lemmas.Int.{ints}
use Rattle.ldp_cells.specs.declared.row.Row.{Row}
use Rattle.ldp_cells.proofs.Centres.{row_of, row_in_range}
use Rattle.ldp_cells.proofs.row.Row.of_grid.Goals as goal

pub returns : goal.returns
returns c =
    let grid = c.args.heights.now in
    let x = c.centre-x.result.0 in
    let y = c.centre-x.result.1 in
    let x_back : to_z w128 (of_z w128 x) ≡ x =
    omega (arith, ints, c.centre-x.ensures.x_range.0, c.centre-x.ensures.x_range.1) in
    let y_back : to_z w128 (of_z w128 y) ≡ y =
    omega (arith, ints, c.centre-x.ensures.y_range.0, c.centre-x.ensures.y_range.1) in
    let row : Row = record {
      x = x;
      y = y;
      spacing = c.spacing.result;
      cols = c.cols-cols.result;
    } in
    rw (x_back, y_back) (record {
      value = row_of grid c.args.number row c.centre-x.ensures.x c.centre-x.ensures.y
          c.spacing.ensures.value c.cols-cols.ensures.value;
      range = row_in_range grid c.args.number row c.cols-cols.ensures.keeps c.centre-x.ensures.x
          c.spacing.ensures.value c.cols-cols.ensures.value c.cols-cols.ensures.range.1
          c.centre-x.ensures.y_range;
    })
