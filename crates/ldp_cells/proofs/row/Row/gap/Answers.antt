use Rattle.std.proofs.Common.{arith, ◌∙◌, ap}
use Rattle.std.proofs.lemmas.Int.{ints}
use Rattle.ldp_zone.specs.Inside.{edge_east, point_east}
use Rattle.ldp_zone.specs.declared.point.Point.{Point}
use Rattle.ldp_cells.proofs.Columns.{gap_rising, gap_falling}
use Rattle.ldp_cells.proofs.row.Row.gap.Goals as goal

pub returns-then-edge-clause-value : goal.returns-then-edge-clause-value
returns-then-edge-clause-value c =
    let row = c.args.self.now in
    let edge = c.args.edge.now in
    let far = gap_rising row edge (omega (arith, ints)) in
    let first = c.centre-first.ensures.value in
    let met = c.edge_east-edge_east.ensures.value
    ∙ ap (λ (at : Point). edge_east at edge) first in
    let east = c.point_east-point_east.ensures.value
    ∙ ap (λ (at : Point). point_east at edge) first in
    omega (arith, ints)

pub returns-else-edge-clause-value : goal.returns-else-edge-clause-value
returns-else-edge-clause-value c =
    let row = c.args.self.now in
    let edge = c.args.edge.now in
    let far = gap_falling row edge (omega (arith, ints)) in
    let first = c.centre-first.ensures.value in
    let met = c.edge_east-edge_east.ensures.value
    ∙ ap (λ (at : Point). edge_east at edge) first in
    let east = c.point_east-point_east.ensures.value
    ∙ ap (λ (at : Point). point_east at edge) first in
    omega (arith, ints)
