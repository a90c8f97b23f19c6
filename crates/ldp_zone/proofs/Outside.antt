-- A point outside the area of zone points lies in no zone: it lies on no edge, and an even number
-- of a ring's edges cross the ray from it, since a ring that leaves a height comes back to it.
use Rattle.std.proofs.Common.{◌≡◌, suc, ◌-◌, Bool, true, false, ◌&&◌, ℤ, pos, negsuc, ◌≤ℤ◌, ◌<ℤ◌}
use Rattle.std.proofs.Common.{int_lt, int_le, List, [], ◌∷◌, length, All, slice_get, Some, arith}
use Rattle.std.proofs.Common.{refl, ap, ◌∙◌}
use Rattle.std.proofs.lemmas.Int.{ints}
use Rattle.ldp_zone.specs.Inside.{ring_edges, edges_from, edge_east, point_east, differ, spans}
use Rattle.ldp_zone.specs.Inside.{meets_east, crosses, between, in_box, on_edge}
use Rattle.ldp_zone.specs.Area.{IsNear, IsEdge, IsRing, is_in_area}
use Rattle.ldp_zone.specs.Walk.{flip, walk, is_inside}
use Rattle.ldp_zone.specs.declared.point.Point.{Point}
use Rattle.ldp_zone.specs.declared.edge.Edge.{Edge}
use Rattle.ldp_zone.specs.declared.walked.Walked.{Walked}
use Rattle.ldp_zone.specs.declared.walked.Walked.TheVariants.{Crossing}
use Rattle.ldp_zone.proofs.Sides.{is_below, not_below, meets_none, meets_always}

-- where a point outside the area lies
data Aside (p : Point) : Type 0 where
  east : pos 360_000_000_000_000 <ℤ p.x → Aside p
  west : p.x <ℤ negsuc 179_999_999_999_999 → Aside p
  north : pos 80_000_000_000_000 <ℤ p.y → Aside p
  south : p.y <ℤ negsuc 79_999_999_999_999 → Aside p

aside_by : (p : Point) (a b c d : Bool)
    → int_le (negsuc 179_999_999_999_999) p.x ≡ a → int_le p.x (pos 360_000_000_000_000) ≡ b
    → int_le (negsuc 79_999_999_999_999) p.y ≡ c → int_le p.y (pos 80_000_000_000_000) ≡ d
    → ((a && b) && (c && d)) ≡ false → Aside p
aside_by p false b c d e f g h out = west (grind (arith, ints))
aside_by p true false c d e f g h out = east (grind (arith, ints))
aside_by p true true false d e f g h out = south (grind (arith, ints))
aside_by p true true true false e f g h out = north (grind (arith, ints))
aside_by p true true true true e f g h out = absurd cc

aside : (p : Point) → is_in_area p ≡ false → Aside p
aside p out = aside_by p _ _ _ _ refl refl refl refl out

beyond : (a b n : ℤ) → a <ℤ n → b <ℤ n → between a b n ≡ false
beyond a b n h k = grind (arith, ints)

short_of : (a b n : ℤ) → n <ℤ a → n <ℤ b → between a b n ≡ false
short_of a b n h k = grind (arith, ints)

no_and : (a b : Bool) → b ≡ false → (a && b) ≡ false
no_and true b e = e
no_and false b e = refl

off_edge_x : (at : Point) (edge : Edge) → between edge.start.x edge.end.x at.x ≡ false
    → on_edge at edge ≡ false
unfolding on_edge in_box
off_edge_x at edge e = rw e refl

off_edge_y : (at : Point) (edge : Edge) → between edge.start.y edge.end.y at.y ≡ false
    → on_edge at edge ≡ false
unfolding on_edge in_box
off_edge_y at edge e =
    rw (no_and (between edge.start.x edge.end.x at.x) (between edge.start.y edge.end.y at.y) e) refl

off_edge : (at : Point) (edge : Edge) → IsEdge edge → Aside at → on_edge at edge ≡ false
off_edge at edge near (east h) =
    off_edge_x at edge (beyond edge.start.x edge.end.x at.x
    (omega (arith, ints, near.start.longitude.1)) (omega (arith, ints, near.end.longitude.1)))
off_edge at edge near (west h) =
    off_edge_x at edge (short_of edge.start.x edge.end.x at.x
    (omega (arith, ints, near.start.longitude.0)) (omega (arith, ints, near.end.longitude.0)))
off_edge at edge near (north h) =
    off_edge_y at edge (beyond edge.start.y edge.end.y at.y
    (omega (arith, ints, near.start.latitude.1)) (omega (arith, ints, near.end.latitude.1)))
off_edge at edge near (south h) =
    off_edge_y at edge (short_of edge.start.y edge.end.y at.y
    (omega (arith, ints, near.start.latitude.0)) (omega (arith, ints, near.end.latitude.0)))

level : (at : Point) (edge : Edge) → spans at edge ≡ false → crosses at edge ≡ false
unfolding crosses
level at edge e = rw e refl

east_by : (at : Point) (edge : Edge) (s : Bool) → spans at edge ≡ s → edge.start.x ≤ℤ at.x
    → edge.end.x ≤ℤ at.x → crosses at edge ≡ false
unfolding crosses meets_east edge_east point_east
east_by at edge false e h k = rw e refl
east_by at edge true e h k =
    rw e (meets_none at.x at.y edge.start.x edge.start.y edge.end.x edge.end.y
    (int_lt at.y edge.start.y) (int_lt at.y edge.end.y) refl refl e h k)

west_by : (at : Point) (edge : Edge) (s : Bool) → spans at edge ≡ s → at.x <ℤ edge.start.x
    → at.x <ℤ edge.end.x → crosses at edge ≡ s
unfolding crosses meets_east edge_east point_east
west_by at edge false e h k = rw e refl
west_by at edge true e h k =
    rw e (meets_always at.x at.y edge.start.x edge.start.y edge.end.x edge.end.y
    (int_lt at.y edge.start.y) (int_lt at.y edge.end.y) refl refl e h k)

above_all : (at : Point) (edge : Edge) → edge.start.y ≤ℤ at.y → edge.end.y ≤ℤ at.y
    → spans at edge ≡ false
above_all at edge h k = rw (not_below at.y edge.start.y h, not_below at.y edge.end.y k) refl

below_all : (at : Point) (edge : Edge) → at.y <ℤ edge.start.y → at.y <ℤ edge.end.y
    → spans at edge ≡ false
below_all at edge h k = rw (is_below at.y edge.start.y h, is_below at.y edge.end.y k) refl

-- an edge crosses the ray from a point outside exactly where it spans the height of a point west of
-- the area
abbrev turns : (at : Point) → Aside at → Edge → Bool
turns at (west h) edge = spans at edge
turns at _ edge = false

crosses_aside : (at : Point) (edge : Edge) → IsEdge edge → (o : Aside at)
    → crosses at edge ≡ turns at o edge
crosses_aside at edge near (east h) = east_by at edge (spans at edge) refl
    (omega (arith, ints, near.start.longitude.1)) (omega (arith, ints, near.end.longitude.1))
crosses_aside at edge near (west h) = west_by at edge (spans at edge) refl
    (omega (arith, ints, near.start.longitude.0)) (omega (arith, ints, near.end.longitude.0))
crosses_aside at edge near (north h) =
    level at edge (above_all at edge (omega (arith, ints, near.start.latitude.1))
    (omega (arith, ints, near.end.latitude.1)))
crosses_aside at edge near (south h) =
    level at edge (below_all at edge (omega (arith, ints, near.start.latitude.0))
    (omega (arith, ints, near.end.latitude.0)))

head : (p : Point) (ps : List Point) → All IsNear (p ∷ ps) → IsNear p
head p ps h = h 0 p (omega arith)

tail : (p : Point) (ps : List Point) → All IsNear (p ∷ ps) → All IsNear ps
tail p ps h = λ k d b. h (suc k) d (omega arith)

abbrev last_of : Point → List Point → Point
last_of p [] = p
last_of p (q ∷ qs) = last_of q qs

-- whether the height of the point is passed an odd number of times on the way from one point to
-- another
abbrev passed : (at : Point) → Aside at → Point → Point → Bool
passed at (west h) p q = differ (int_lt at.y p.y) (int_lt at.y q.y)
passed at _ p q = false

flip_differ : (a b c odd : Bool) → flip (differ b c) (flip (differ a b) odd) ≡ flip (differ a c) odd
flip_differ true true true true = refl
flip_differ true true true false = refl
flip_differ true true false true = refl
flip_differ true true false false = refl
flip_differ true false true true = refl
flip_differ true false true false = refl
flip_differ true false false true = refl
flip_differ true false false false = refl
flip_differ false true true true = refl
flip_differ false true true false = refl
flip_differ false true false true = refl
flip_differ false true false false = refl
flip_differ false false true true = refl
flip_differ false false true false = refl
flip_differ false false false true = refl
flip_differ false false false false = refl

flip_passed : (at : Point) (o : Aside at) (p q r : Point) (odd : Bool)
    → flip (passed at o q r) (flip (turns at o record { start = p; end = q }) odd)
    ≡ flip (passed at o p r) odd
flip_passed at (east h) p q r odd = refl
flip_passed at (north h) p q r odd = refl
flip_passed at (south h) p q r odd = refl
flip_passed at (west h) p q r odd = flip_differ (int_lt at.y p.y) (int_lt at.y q.y)
    (int_lt at.y r.y) odd

differ_self : (a : Bool) → differ a a ≡ false
differ_self true = refl
differ_self false = refl

passed_self : (at : Point) (o : Aside at) (p : Point) → passed at o p p ≡ false
passed_self at (east h) p = refl
passed_self at (north h) p = refl
passed_self at (south h) p = refl
passed_self at (west h) p = differ_self (int_lt at.y p.y)

chain : (at : Point) (o : Aside at) (odd : Bool) (p : Point) (ps : List Point) → IsNear p
    → All IsNear ps
    → walk at odd (edges_from p ps) ≡ Crossing (flip (passed at o p (last_of p ps)) odd)
chain at o odd p [] near all = rw (passed_self at o p) refl
chain at o odd p (q ∷ qs) near all =
    let edge : Edge = record { start = p; end = q } in
    let next : IsNear q = head q qs all in
    let ends : IsEdge edge = record { start = near; end = next } in
    let rest = chain at o (flip (turns at o edge) odd) q qs next (tail q qs all) in
    rw (off_edge at edge ends o, crosses_aside at edge ends o) (rest
    ∙ ap Crossing (flip_passed at o p q (last_of q qs) odd))

last_is : (p : Point) (ps : List Point)
    → slice_get (p ∷ ps) (length (p ∷ ps) - 1) ≡ Some (last_of p ps)
last_is p [] = refl
last_is p (q ∷ qs) =
    let back : length (p ∷ q ∷ qs) - 1 ≡ suc (length (q ∷ qs) - 1) = omega arith in
    rw back (last_is q qs)

-- a point outside the area leaves the walk along a ring as it is
pub ring_outside : (at : Point) (odd : Bool) (ring : List Point) → IsRing ring
    → is_in_area at ≡ false
    → walk at odd (ring_edges ring) ≡ Crossing odd
ring_outside at odd [] is out = refl
ring_outside at odd (p ∷ ps) is out =
    let o : Aside at = aside at out in
    let back : Some p ≡ Some (last_of p ps) = is.closed ∙ last_is p ps in
    let same : last_of p ps ≡ p = cc in
    chain at o odd p ps (head p ps is.near) (tail p ps is.near) ∙ rw (same, passed_self at o p) refl

in_area_by : (p : Point) (a b c d : Bool)
    → int_le (negsuc 179_999_999_999_999) p.x ≡ a → int_le p.x (pos 360_000_000_000_000) ≡ b
    → int_le (negsuc 79_999_999_999_999) p.y ≡ c → int_le p.y (pos 80_000_000_000_000) ≡ d
    → ((a && b) && (c && d)) ≡ true → IsNear p
in_area_by p true true true true e f g h n = record {
  longitude = (grind (arith, ints), grind (arith, ints));
  latitude = (grind (arith, ints), grind (arith, ints));
}
in_area_by p false b c d e f g h n = absurd cc
in_area_by p true false c d e f g h n = absurd cc
in_area_by p true true false d e f g h n = absurd cc
in_area_by p true true true false e f g h n = absurd cc

near_by : (at : Point) (found : Walked) (answer area : Bool) → is_in_area at ≡ area
    → (is_in_area at ≡ false → found ≡ Crossing false)
    → answer ≡ is_inside found → answer ≡ true → IsNear at
near_by at found answer true e out same found_in = in_area_by at _ _ _ _ refl refl refl refl e
near_by at found answer false e out same found_in =
    let no : answer ≡ false = same ∙ ap is_inside (out e) in
    absurd cc

-- a point that is found inside lies in the area
pub inside_near : (at : Point) (found : Walked) (answer : Bool)
    → (is_in_area at ≡ false → found ≡ Crossing false)
    → answer ≡ is_inside found → answer ≡ true → IsNear at
inside_near at found answer out same found_in = near_by at found answer (is_in_area at) refl out
    same found_in
