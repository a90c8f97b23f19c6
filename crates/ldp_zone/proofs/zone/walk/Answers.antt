use Rattle.std.proofs.Common.{◌≡◌, sym, ◌∙◌, arith}
use Rattle.ldp_zone.specs.declared.walked.Walked.TheVariants.{Crossing}
use Rattle.ldp_zone.proofs.Walks.{ring_step, ring_ends}
use Rattle.ldp_zone.proofs.zone.walk.Goals as goal

pub returns-in-OnEdge-clause-value : goal.returns-in-OnEdge-clause-value
returns-in-OnEdge-clause-value c =
    let stops = sym c.walk.ensures.value ∙ c.in-OnEdge.is in
    ring_ends c.args.at.now c.loop-ring.odd c.args.rings.now c.loop-ring.ring-index
    c.ring-item.result (omega arith) c.ring-item.is stops
    ∙ c.loop-ring.invariant.same

pub returns-in-OnEdge-clause-outside : goal.returns-in-OnEdge-clause-outside
returns-in-OnEdge-clause-outside c = λ out.
    let passed = sym (c.walk.ensures.outside out) ∙ c.in-OnEdge.is in
    absurd cc

pub loop-ring-preserved : goal.loop-ring-preserved
loop-ring-preserved c =
    let passed = sym c.walk.ensures.value ∙ c.in-Crossing.is in
    record {
      same = ring_step c.args.at.now c.loop-ring.odd c.in-Crossing.with_ring c.args.rings.now
          c.loop-ring.ring-index c.ring-item.result (omega arith) c.ring-item.is passed
          ∙ c.loop-ring.invariant.same;
      outside = λ out.
          let kept : Crossing c.in-Crossing.with_ring ≡ Crossing c.loop-ring.odd =
          sym c.in-Crossing.is ∙ c.walk.ensures.outside out in
          let before = c.loop-ring.invariant.outside out in
          cc;
    }
