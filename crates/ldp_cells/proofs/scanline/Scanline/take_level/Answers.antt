use Rattle.std.proofs.Common.{◌≡◌, ℤ, pos, ◌+ℤ◌, ◌-ℤ◌, to_z, of_z, refl, arith}
use Rattle.std.specs.Int.{w128, int_min, int_max}
use Rattle.std.proofs.lemmas.Int.{ints, clamps}
use Rattle.ldp_cells.proofs.Filling.{edge_along, same_before}
use Rattle.ldp_cells.proofs.scanline.Scanline.take_level.Goals as goal

pub overflow_sub-east : goal.overflow_sub-east
overflow_sub-east c = omega (arith, ints, clamps)

pub overflow_add-east : goal.overflow_add-east
overflow_add-east c = omega (arith, ints, clamps)

pub returns : goal.returns
returns c =
    let row = c.args.row.now in
    let edge = c.args.edge.now in
    let step = c.from-step.result in
    let first = c.columns_before-first.result in
    let end = c.columns_before-end.result in
    let back : ℤ → ℤ = λ z. to_z w128 (of_z w128 z) in
    let west : ℤ = back (back c.min-west.result -ℤ back row.x) in
    let east : ℤ = back (back (back c.max-east.result -ℤ back row.x) +ℤ pos 1) in
    let least = int_min edge.start.x edge.end.x in
    let most = int_max edge.start.x edge.end.x in
    let x_is : back row.x ≡ row.x = omega (arith, ints) in
    let least_is : back c.min-west.result ≡ least = omega (arith, ints, clamps) in
    let most_is : back c.max-east.result ≡ most = omega (arith, ints, clamps) in
    let west_is : back (least -ℤ row.x) ≡ least -ℤ row.x = omega (arith, ints, clamps) in
    let east_is : back (most -ℤ row.x) ≡ most -ℤ row.x = omega (arith, ints, clamps) in
    let next_is : back ((most -ℤ row.x) +ℤ pos 1) ≡ (most -ℤ row.x) +ℤ pos 1 =
    omega (arith, ints, clamps) in
    let to_west : west ≡ least -ℤ row.x = rw (least_is, x_is, west_is) refl in
    let to_east : east ≡ (most -ℤ row.x) +ℤ pos 1 = rw (most_is, x_is, east_is, next_is) refl in
    edge_along row edge c.args.self.now c.mark_columns.new.self first end c.requires.start
    c.requires.end
    (same_before row.cols first step row.spacing west
    (least -ℤ row.x) c.from-step.ensures to_west
    c.columns_before-first.ensures.value)
    (same_before row.cols end step row.spacing east
    ((most -ℤ row.x) +ℤ pos 1) c.from-step.ensures to_east
    c.columns_before-end.ensures.value)
    c.mark_columns.ensures.each c.mark_columns.ensures.crossings
    (λ column within. c.mark_columns.ensures.marks column (omega arith))
