use Rattle.std.proofs.Common.{Bool, ap, ◌∙◌}
use Rattle.ldp_zone.specs.declared.point.Point.{Point}
use Rattle.ldp_cells.specs.Cells.{cells_where}
use Rattle.ldp_cells.proofs.Outlines.{zone_near, zone_test}
use Rattle.ldp_cells.proofs.choose.zone_cells.Goals as goal

pub cells_where-requires-clause-near : goal.cells_where-requires-clause-near
cells_where-requires-clause-near c =
    zone_near c.args.zone.now c.in_ok-edges.edges.items c.in_ok-edges.ensures.value
    c.in_ok-edges.ensures.keeps

pub returns-clause-value : goal.returns-clause-value
returns-clause-value c = λ fits.
    let same = zone_test c.args.zone.now c.in_ok-edges.edges.items c.in_ok-edges.ensures.value in
    c.cells_where.ensures.value fits
    ∙ ap (λ (test : Point → Bool). cells_where test c.args.heights.now) same
