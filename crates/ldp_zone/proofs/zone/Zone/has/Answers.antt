use Rattle.std.proofs.Common.{◌≡◌, false, List, to_z, of_z, ap, sym, ◌∙◌}
use Rattle.std.specs.Int.{w128}
use Rattle.std.proofs.lemmas.Int.{to_z-of_z}
use Rattle.ldp_zone.specs.Inside.{edges}
use Rattle.ldp_zone.specs.Walk.{walk, is_inside}
use Rattle.ldp_zone.specs.declared.point.Point.{Point}
use Rattle.ldp_zone.proofs.Walks.{inside_walk}
use Rattle.ldp_zone.proofs.Outside.{inside_near}
use Rattle.ldp_zone.proofs.zone.Zone.has.Goals as goal

pub returns-clause-value : goal.returns-clause-value
returns-clause-value c =
    let x = to_z-of_z w128 c.args.x c.ranges.x in
    let y = to_z-of_z w128 c.args.y c.ranges.y in
    let at : Point = record { x = c.args.x; y = c.args.y } in
    let rings : c.deref.result.now ≡ c.args.self.now = c.deref.ensures.value ∙ c.self.view_is in
    let walked = simp (x, y) at c.walk.ensures.value in
    c.is_inside.ensures
    ∙ ap is_inside walked
    ∙ ap (λ (rs : List (List Point)). is_inside (walk at false (edges rs))) rings
    ∙ sym (inside_walk c.args.self.now c.args.x c.args.y)

pub returns-clause-within : goal.returns-clause-within
returns-clause-within c = λ found.
    let x = to_z-of_z w128 c.args.x c.ranges.x in
    let y = to_z-of_z w128 c.args.y c.ranges.y in
    let at : Point = record {
      x = to_z w128 (of_z w128 c.args.x);
      y =
          to_z w128 (of_z w128 c.args.y);
    } in
    let near = inside_near at c.walk.result c.is_inside.result c.walk.ensures.outside
    c.is_inside.ensures found in
    record { longitude = simp x at near.longitude; latitude = simp y at near.latitude }
