use Rattle.std.proofs.Common.{◌≡◌, to_z, of_z, arith}
use Rattle.std.specs.Int.{w32, w128}
use Rattle.std.proofs.lemmas.Int.{ints}
use Rattle.ldp_heights.specs.Grid.{centre_x, centre_y}
use Rattle.ldp_cells.specs.Cells.{cell_with}
use Rattle.ldp_cells.specs.declared.cell.Cell.{Cell}
use Rattle.ldp_cells.proofs.Tallied.{kept_more, kept_past}
use Rattle.ldp_cells.proofs.tally.Tally.take.Goals as goal
use Rattle.ldp_cells.proofs.tally.Tally.take.Goals.{then-self-lt-MOST_CELLS+in_ok-push-in-Some}
use Rattle.ldp_cells.proofs.tally.Tally.take.Goals.{else-self-lt-MOST_CELLS}

pub invariant_of-self-in-Some : goal.invariant_of-self-in-Some
invariant_of-self-in-Some c =
    let grid = c.args.heights.now in
    let inside = c.self.inside in
    let mm = c.in-Some.mm in
    let range = c.in-Some.ensures.range in
    elim c.if-self-lt-MOST_CELLS.branch [
      | then-self-lt-MOST_CELLS+in_ok-push-in-Some w ↦
          let cell : Cell = cell_with grid c.args.row c.args.col mm in
          let x : to_z w128 (of_z w128 w.centre-x.result.0) ≡ centre_x grid c.args.col =
          omega (
            arith,
            ints,
            w.centre-x.ensures.x,
            w.centre-x.ensures.x_range.0,
            w.centre-x.ensures.x_range.1,
          ) in
          let y : to_z w128 (of_z w128 w.centre-x.result.1) ≡ centre_y grid c.args.row =
          omega (
            arith,
            ints,
            w.centre-x.ensures.y,
            w.centre-x.ensures.y_range.0,
            w.centre-x.ensures.y_range.1,
          ) in
          let height : to_z w32 (of_z w32 mm) ≡ mm = omega (arith, ints, range.0, range.1) in
          let items = simp (x, y, height) at w.in_ok-push-in-Some.ensures.items in
          rw (w.self-inside-is, items)
          (kept_more inside.cells.items inside.count inside.missing cell c.self.invariant
          w.if-self-lt-MOST_CELLS.true
          (record {
            near = c.requires.near;
            height = (omega (arith, ints, range.0), omega (arith, ints, range.1));
          })
          range)
      | else-self-lt-MOST_CELLS w ↦ rw w.self-inside-is
          (kept_past inside.cells.items inside.count inside.missing c.self.invariant)
    ]
