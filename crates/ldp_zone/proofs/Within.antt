-- A point that lies in a zone is one that a zone may have.
use Rattle.std.proofs.Common.{◌≡◌, suc, Bool, true, false, ℤ, List, [], ◌∷◌, All, arith, refl, ◌∙◌}
use Rattle.ldp_zone.specs.Inside.{edges, inside}
use Rattle.ldp_zone.specs.Area.{IsNear, IsRing, IsZone, is_in_area}
use Rattle.ldp_zone.specs.Walk.{walk}
use Rattle.ldp_zone.specs.declared.point.Point.{Point}
use Rattle.ldp_zone.specs.declared.walked.Walked.TheVariants.{Crossing}
use Rattle.ldp_zone.proofs.Walks.{ring_passed, inside_walk}
use Rattle.ldp_zone.proofs.Outside.{ring_outside, inside_near}

-- a point outside the area leaves the walk along all rings as it is
rings_outside : (at : Point) (odd : Bool) (rings : List (List Point)) → All IsRing rings
    → is_in_area at ≡ false
    → walk at odd (edges rings) ≡ Crossing odd
rings_outside at odd [] each out = refl
rings_outside at odd (ring ∷ rings) each out =
    ring_passed at odd odd ring rings
    (ring_outside at odd ring (each 0 ring (omega arith)) out)
    ∙ rings_outside at odd rings (λ k d b. each (suc k) d (omega arith)) out

pub inside_is_near : (rings : List (List Point)) (x y : ℤ) → IsZone rings
    → inside rings x y ≡ true
    → IsNear record { x = x; y = y }
inside_is_near rings x y zone found =
    let at : Point = record { x = x; y = y } in
    inside_near at (walk at false (edges rings)) (inside rings x y)
    (rings_outside at false rings zone.each) (inside_walk rings x y) found
