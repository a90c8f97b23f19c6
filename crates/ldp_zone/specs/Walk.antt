-- The walk along a list of edges, of which the private functions speak.
use Rattle.std.specs.Prelude.{Bool, true, false, List, [], ◌∷◌, if◌then◌else◌}
use Rattle.ldp_zone.specs.Inside.{crosses, on_edge}
use Rattle.ldp_zone.specs.declared.point.Point.{Point}
use Rattle.ldp_zone.specs.declared.edge.Edge.{Edge}
use Rattle.ldp_zone.specs.declared.walked.Walked.{Walked}
use Rattle.ldp_zone.specs.declared.walked.Walked.TheVariants.{OnEdge, Crossing}

-- whether the number of crossings is odd with this edge too, which crosses or does not
abbrev pub flip : Bool → Bool → Bool
flip crossed odd = if crossed then (if odd then false else true) else odd

-- whether the point lies on one of the edges, and else whether an odd number of them crosses
abbrev pub walk : Point → Bool → List Edge → Walked
walk at odd [] = Crossing odd
walk at odd (edge ∷ edges) =
    if on_edge at edge then OnEdge else walk at (flip (crosses at edge) odd) edges

-- what the walk says of the point: it lies on an edge, or the number of crossings is odd
abbrev pub is_inside : Walked → Bool
is_inside OnEdge = true
is_inside (Crossing odd) = odd
