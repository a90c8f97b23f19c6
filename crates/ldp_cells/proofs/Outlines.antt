-- The edges of a zone, ring by ring; and where the points of a region lie.
use Rattle.std.proofs.Common.{◌≡◌, ℕ, ◌+◌, Bool, true, false, ◌&&◌, List, ◌∷◌, ◌++◌, drop, Some}
use Rattle.std.proofs.Common.{slice_get}
use Rattle.std.proofs.Common.{int_le, pos, negsuc, refl, ap, sym, ◌∙◌, append_assoc, arith}
use Rattle.std.proofs.lemmas.Int.{ints}
use Rattle.std.proofs.lemmas.List.{at_drop_more}
use Rattle.std.proofs.lemmas.Option.{get_or_from_slice_get, slice_get_within}
use Rattle.ldp_zone.specs.Inside.{edges, ring_edges, inside, inside_of}
use Rattle.ldp_zone.specs.Area.{IsNear, IsZone}
use Rattle.ldp_zone.specs.declared.point.Point.{Point}
use Rattle.ldp_zone.specs.declared.edge.Edge.{Edge}
use Rattle.ldp_zone.proofs.Within.{inside_is_near}
use Rattle.ldp_cells.specs.Cells.{in_zone, in_area}
use Rattle.ldp_cells.specs.Rows.{IsNearTest}

-- one ring more
pub ring_pushed : (rings : List (List Point)) (index : ℕ) (ring : List Point) (old new : List Edge)
    → slice_get rings index ≡ Some ring
    → new ≡ old ++ ring_edges ring
    → old ++ edges (drop index rings) ≡ edges rings
    → new ++ edges (drop (index + 1) rings) ≡ edges rings
ring_pushed rings index ring old new is pushed before =
    let rest = drop (index + 1) rings in
    let within = slice_get_within rings index ring is in
    let next = at_drop_more (λ (rs : List (List Point)). edges rs) rings index ring within in
    let here = ap (λ (r : List Point). edges (r ∷ rest))
    (get_or_from_slice_get rings index ring ring is) in
    ap (λ (list : List Edge). list ++ edges rest) pushed
    ∙ append_assoc old (ring_edges ring) (edges rest)
    ∙ ap (λ (list : List Edge). old ++ list) (sym (next ∙ here))
    ∙ before

-- the test of a zone is that of its edges
pub zone_test : (rings : List (List Point)) (list : List Edge) → list ≡ edges rings
    → inside_of list ≡ in_zone rings
unfolding in_zone inside
zone_test rings list e = ap inside_of e

pub zone_near : (rings : List (List Point)) (list : List Edge) → list ≡ edges rings → IsZone rings
    → IsNearTest (inside_of list)
unfolding inside
zone_near rings list e zone = λ at found.
    let whole : inside rings at.x at.y ≡ inside_of list at = ap (λ l. inside_of l at) (sym e) in
    inside_is_near rings at.x at.y zone (whole ∙ found)

all_by : (at : Point) (a b c d : Bool)
    → int_le (negsuc 179_999_999_999_999) at.x ≡ a → int_le at.x (pos 360_000_000_000_000) ≡ b
    → int_le (negsuc 79_999_999_999_999) at.y ≡ c → int_le at.y (pos 80_000_000_000_000) ≡ d
    → ((a && b) && (c && d)) ≡ true
    → IsNear at
all_by at true true true true e f g h n = record {
  longitude = (grind (arith, ints), grind (arith, ints));
  latitude = (grind (arith, ints), grind (arith, ints));
}
all_by at false b c d e f g h n = absurd cc
all_by at true false c d e f g h n = absurd cc
all_by at true true false d e f g h n = absurd cc
all_by at true true true false e f g h n = absurd cc

pub area_near : IsNearTest in_area
unfolding in_area
area_near = λ at found. all_by at _ _ _ _ refl refl refl refl found
