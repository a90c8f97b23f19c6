use Rattle.std.proofs.Common.{◌∙◌, sym, ap}
use Rattle.ldp_zone.specs.Inside.{between}
use Rattle.ldp_zone.specs.declared.point.Point.{Point}
use Rattle.ldp_cells.proofs.Filling.{edge_aside}
use Rattle.ldp_cells.proofs.scanline.Scanline.take_edge.Goals as goal

pub returns-then-not-in_height : goal.returns-then-not-in_height
returns-then-not-in_height c =
    let edge = c.args.edge.now in
    edge_aside c.args.row.now edge c.args.self.now
    (ap (λ (at : Point). between edge.start.y edge.end.y at.y) (sym c.centre.ensures.value)
    ∙ sym c.in_height.ensures
    ∙ c.if-not-in_height.true)
