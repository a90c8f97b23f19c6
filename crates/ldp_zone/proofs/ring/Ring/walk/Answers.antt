use Rattle.std.proofs.Common.{◌≡◌, ◌∙◌, rules, arith}
use Rattle.std.proofs.lemmas.Grind.{common_steps}
use Rattle.ldp_zone.specs.Inside.{ring_edges}
use Rattle.ldp_zone.specs.Walk.{walk}
use Rattle.ldp_zone.proofs.Outside.{ring_outside}
use Rattle.ldp_zone.proofs.ring.Ring.walk.Goals as goal

pub returns-in-Some-clause-outside : goal.returns-in-Some-clause-outside
returns-in-Some-clause-outside c = λ out.
    let ring = c.self.inside.points.items in
    let walked : c.walk.result ≡ walk c.args.at.now c.args.odd (ring_edges ring) =
    first_of (search rules, grind (arith, common_steps)) in
    walked ∙ ring_outside c.args.at.now c.args.odd ring c.self.invariant out
