-- The test of a region, of which the private functions speak.
use Rattle.std.specs.Prelude.{Bool, All}
use Rattle.ldp_zone.specs.Inside.{inside_of}
use Rattle.ldp_zone.specs.declared.point.Point.{Point}
use Rattle.ldp_zone.specs.Area.{IsEdge}
use Rattle.ldp_cells.specs.Cells.{in_area}
use Rattle.ldp_cells.specs.declared.region.Region.{Region}
use Rattle.ldp_cells.specs.declared.region.Region.TheVariants as regions

-- whether a point lies in the region: inside the edges of a zone, or in the whole area
abbrev pub test_of : Region → Point → Bool
test_of (regions.Edges edges) at = inside_of edges.items at
test_of regions.Area at = in_area at

-- the edges of a region are such as a zone may have
abbrev pub HasEdges : Region → Type 0
HasEdges (regions.Edges edges) = All IsEdge edges.items
HasEdges regions.Area = Unit {0}
