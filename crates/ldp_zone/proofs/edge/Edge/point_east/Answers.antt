use Rattle.std.proofs.Common.{◌-ℤ◌, ◌*ℤ◌, arith}
use Rattle.std.specs.Int.{w128}
use Rattle.std.proofs.lemmas.Int.{ints, to_z-of_z}
use Rattle.ldp_zone.specs.Inside.{point_east}
use Rattle.ldp_zone.specs.Products.{IsWide, IsNarrow}
use Rattle.ldp_zone.proofs.Products.{fits_product, wide_back, narrow_back}
use Rattle.ldp_zone.proofs.edge.Edge.point_east.Goals as goal

pub returns-clause-value : goal.returns-clause-value
unfolding point_east
returns-clause-value c =
    let at = c.args.at.now in
    let edge = c.args.self.now in
    let a = wide_back at.x (omega (arith, ints), omega (arith, ints)) in
    let b = narrow_back edge.start.x (omega (arith, ints), omega (arith, ints)) in
    let e = narrow_back edge.end.y (omega (arith, ints), omega (arith, ints)) in
    let d = narrow_back edge.start.y (omega (arith, ints), omega (arith, ints)) in
    let above : IsWide (at.x -ℤ edge.start.x) = (omega (arith, ints), omega (arith, ints)) in
    let along : IsNarrow (edge.end.y -ℤ edge.start.y) =
    (omega (arith, ints), omega (arith, ints)) in
    let wide = wide_back (at.x -ℤ edge.start.x) above in
    let narrow = narrow_back (edge.end.y -ℤ edge.start.y) along in
    let product = simp (a, b, e, d, wide, narrow) at c.product.ensures.value in
    rw product (to_z-of_z w128 ((at.x -ℤ edge.start.x) *ℤ (edge.end.y -ℤ edge.start.y))
    (fits_product (at.x -ℤ edge.start.x) (edge.end.y -ℤ edge.start.y) above along))
