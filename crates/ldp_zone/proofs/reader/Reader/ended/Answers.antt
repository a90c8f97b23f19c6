use Rattle.std.proofs.Common.{ap, rules, ◌∙◌}
use Rattle.std.proofs.lemmas.Int.{to_z-of_z}
use mir.Val.{SFits}
use mir.Syntax.{w128}
use Rattle.ldp_zone.specs.Seen.{pending}
use Rattle.ldp_zone.specs.Steps.{Progress}
use Rattle.ldp_zone.proofs.Rings.{point_more}
use Rattle.ldp_zone.proofs.reader.Reader.ended.Goals as goal

pub invariant_of-self-2 : goal.invariant_of-self-2
invariant_of-self-2 c =
    let x : SFits w128 c.self.inside.x = search rules in
    let y : SFits w128 c.in_ok-y.y = search rules in
    let more = rw (to_z-of_z w128 c.self.inside.x x, to_z-of_z w128 c.in_ok-y.y y) at
    c.in_ok-push.ensures.items in
    point_more _ c.push.new.self.items _ c.self.invariant
    (ap (λ (p : Progress). pending p.spot) c.self.view_is ∙ c.requires)
    (record { longitude = c.self.invariant.longitude; latitude = c.in_ok-y.ensures.range })
    more
