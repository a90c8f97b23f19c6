-- A ring takes one point more; one that is found closed ends where it begins; and there are no more
-- rings than a quarter of their points.
use Rattle.std.proofs.Common.{◌≡◌, ◌≤◌, ◌+◌, ◌-◌, ◌*◌, suc, All, Bool, true, false, ◌&&◌, ℤ, List}
use Rattle.std.proofs.Common.{[], ◌∷◌, ◌++◌, length, slice_get, Option, Some, None, arith, refl, ap}
use Rattle.std.proofs.Common.{◌∙◌}
use Rattle.std.specs.Ordering.{int_eq}
use Rattle.std.proofs.lemmas.Bool.Decides.{Decides-int_eq}
use Rattle.std.proofs.lemmas.List.{length_push}
use Rattle.std.proofs.lemmas.List.Elements.{All-push}
use Rattle.ldp_zone.specs.Inside.{same_point}
use Rattle.std.proofs.lemmas.List.Sums.{sum_by-cons}
use Rattle.ldp_zone.specs.Area.{IsNear, IsRing, IsZone, point_count}
use Rattle.ldp_zone.specs.Grammar.{same_ends, is_closed}
use Rattle.ldp_zone.specs.Seen.{IsProgress, pending}
use Rattle.ldp_zone.specs.Steps.{Progress}
use Rattle.ldp_zone.specs.declared.point.Point.{Point}
use Rattle.ldp_zone.specs.declared.spot.Spot.TheVariants as spots

left : (a b : Bool) → (a && b) ≡ true → a ≡ true
left true b e = refl
left false b e = absurd cc

right : (a b : Bool) → (a && b) ≡ true → b ≡ true
right true b e = e
right false b e = absurd cc

same : (p q : Point) → same_point p q ≡ true → p ≡ q
same p q e =
    let x : p.x ≡ q.x = (Decides-int_eq p.x q.x).0 (left (int_eq p.x q.x) (int_eq p.y q.y) e) in
    let y : p.y ≡ q.y = (Decides-int_eq p.y q.y).0 (right (int_eq p.x q.x) (int_eq p.y q.y) e) in
    let at_y : ℤ → Point = λ n. record { x = n; y = p.y } in
    let at_x : ℤ → Point = λ n. record { x = q.x; y = n } in
    ap at_y x ∙ ap at_x y

ends : (a b : Option Point) → same_ends a b ≡ true → a ≡ b
ends (Some p) (Some q) e = ap Some (same p q e)
ends (Some p) None e = absurd cc
ends None b e = absurd cc

pub closed_ends : (ring : List Point) → is_closed ring ≡ true
    → slice_get ring 0 ≡ slice_get ring (length ring - 1)
unfolding is_closed
closed_ends ring e = ends (slice_get ring 0) (slice_get ring (length ring - 1)) e

-- one point more of the ring that is open
pub point_more : (p : Progress) (ring : List Point) (point : Point) → IsProgress p
    → pending p.spot ≡ 1 → IsNear point
    → ring ≡ p.ring ++ point ∷ [] → IsProgress record p { spot = spots.Third; ring = ring }
point_more p ring point kept second near more =
    let one : length ring ≡ length p.ring + 1 = ap length more ∙ length_push p.ring point in
    let few : point_count p.rings + length p.ring + pending p.spot ≤ p.count = kept.few in
    record {
      each = kept.each;
      some = kept.some;
      few = omega arith;
      most = kept.most;
      near = rw more (All-push IsNear p.ring point kept.near near);
      longitude = kept.longitude;
    }

-- four points a ring
four_each : (rings : List (List Point)) → All IsRing rings → 4 * length rings ≤ point_count rings
four_each [] each = omega arith
four_each (ring ∷ rings) each =
    omega (
      arith,
      four_each rings (λ k d b. each (suc k) d (omega arith)),
      (each 0 ring (omega arith)).some,
      sum_by-cons length ring rings,
    )

pub rings_few : (rings : List (List Point)) → IsZone rings → length rings ≤ 2_500
rings_few rings zone = omega (arith, four_each rings zone.each, zone.few)

pub ruleset closing = (closed_ends, All-push)
