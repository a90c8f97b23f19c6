-- The even-odd rule over all rings of a zone, on whole numbers: nothing is divided or rounded. A
-- point on an edge is inside. (Own choice of this project.)
use Rattle.std.specs.Prelude.{◌%◌, ◌==◌, Bool, true, false, ◌&&◌, ◌||◌}
use Rattle.std.specs.Prelude.{ℤ, ◌-ℤ◌, ◌*ℤ◌, int_lt, int_le}
use Rattle.std.specs.Prelude.{List, [], ◌∷◌, count_by, if◌then◌else◌}
use Rattle.std.specs.List.{list_any, flat_map}
use Rattle.std.specs.Ordering.{int_eq}
use Rattle.ldp_zone.specs.declared.point.Point.{Point}
use Rattle.ldp_zone.specs.declared.edge.Edge.{Edge}

-- whether two points have the same longitude and the same latitude
abbrev pub same_point : Point → Point → Bool
same_point p q = int_eq p.x q.x && int_eq p.y q.y

-- the edges from a point along the points that follow it
abbrev pub edges_from : Point → List Point → List Edge
edges_from p [] = []
edges_from p (q ∷ qs) = record { start = p; end = q } ∷ edges_from q qs

-- the edges of a ring, whose last point is its first
abbrev pub ring_edges : List Point → List Edge
ring_edges [] = []
ring_edges (p ∷ ps) = edges_from p ps

-- the edges of all rings
abbrev pub edges : List (List Point) → List Edge
edges rings = flat_map ring_edges rings

-- The line through an edge meets the height of a point so far east of the edge's start, times the
-- edge's rise; and the point itself lies so far east of the start, times the rise.
unfoldable pub edge_east : Point → Edge → ℤ
edge_east at edge = (at.y -ℤ edge.start.y) *ℤ (edge.end.x -ℤ edge.start.x)

-- how far the point lies east of the edge's start, times the edge's rise
unfoldable pub point_east : Point → Edge → ℤ
point_east at edge = (at.x -ℤ edge.start.x) *ℤ (edge.end.y -ℤ edge.start.y)

-- one of two is true
abbrev pub differ : Bool → Bool → Bool
differ true b = if b then false else true
differ false b = b

-- exactly one end of the edge is above the height of the point
abbrev pub spans : Point → Edge → Bool
spans at edge = differ (int_lt at.y edge.start.y) (int_lt at.y edge.end.y)

-- the edge meets the height of the point strictly east of it
unfoldable pub meets_east : Point → Edge → Bool
meets_east at edge =
    if int_lt edge.start.y edge.end.y then int_lt (point_east at edge) (edge_east at edge)
    else int_lt (edge_east at edge) (point_east at edge)

-- the edge crosses the ray from the point to the east
unfoldable pub crosses : Point → Edge → Bool
crosses at edge = spans at edge && meets_east at edge

-- whether n lies between a and b, whichever of them is the lesser; both ends are between
abbrev pub between : ℤ → ℤ → ℤ → Bool
between a b n = (int_le a n && int_le n b) || (int_le b n && int_le n a)

-- the point lies in the box of the edge
unfoldable pub in_box : Point → Edge → Bool
in_box at edge = between edge.start.x edge.end.x at.x && between edge.start.y edge.end.y at.y

-- the point lies on the line through the edge
unfoldable pub on_line : Point → Edge → Bool
on_line at edge =
    int_le (edge_east at edge) (point_east at edge)
    && int_le (point_east at edge) (edge_east at edge)

-- the point lies on the edge, or is one of its ends
unfoldable pub on_edge : Point → Edge → Bool
on_edge at edge = in_box at edge && on_line at edge

-- the point lies on one of the edges, or an odd number of them cross the ray from it to the east
unfoldable pub inside_of : List Edge → Point → Bool
inside_of edges at = list_any (on_edge at) edges || (count_by (crosses at) edges % 2 == 1)

-- whether the point of longitude x and latitude y lies in a zone of these rings
unfoldable pub inside : List (List Point) → ℤ → ℤ → Bool
inside rings x y = inside_of (edges rings) record { x = x; y = y }
