use Rattle.std.proofs.Common.{◌-ℤ◌, ◌*ℤ◌, arith}
use Rattle.std.specs.Int.{w128}
use Rattle.std.proofs.lemmas.Int.{ints, to_z-of_z}
use Rattle.ldp_zone.specs.Inside.{edge_east}
use Rattle.ldp_zone.specs.Products.{IsWide, IsNarrow}
use Rattle.ldp_zone.proofs.Products.{fits_product, wide_back, narrow_back}
use Rattle.ldp_zone.proofs.edge.Edge.edge_east.Goals as goal

pub returns-clause-value : goal.returns-clause-value
unfolding edge_east
returns-clause-value c =
    let at = c.args.at.now in
    let edge = c.args.self.now in
    let a = wide_back at.y (omega (arith, ints), omega (arith, ints)) in
    let b = narrow_back edge.start.y (omega (arith, ints), omega (arith, ints)) in
    let e = narrow_back edge.end.x (omega (arith, ints), omega (arith, ints)) in
    let d = narrow_back edge.start.x (omega (arith, ints), omega (arith, ints)) in
    let above : IsWide (at.y -ℤ edge.start.y) = (omega (arith, ints), omega (arith, ints)) in
    let along : IsNarrow (edge.end.x -ℤ edge.start.x) =
    (omega (arith, ints), omega (arith, ints)) in
    let wide = wide_back (at.y -ℤ edge.start.y) above in
    let narrow = narrow_back (edge.end.x -ℤ edge.start.x) along in
    let product = simp (a, b, e, d, wide, narrow) at c.product.ensures.value in
    rw product (to_z-of_z w128 ((at.y -ℤ edge.start.y) *ℤ (edge.end.x -ℤ edge.start.x))
    (fits_product (at.y -ℤ edge.start.y) (edge.end.x -ℤ edge.start.x) above along))
