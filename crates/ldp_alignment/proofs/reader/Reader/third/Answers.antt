use Rattle.std.proofs.Common.{◌≡◌, ap, ◌∙◌, arith}
use Rattle.std.proofs.lemmas.Int.{ints, to_z-of_z}
use mir.Val.{to_z, of_z}
use mir.Syntax.{w128, w64}
use Rattle.ldp_alignment.specs.Reading.{Progress}
use Rattle.ldp_alignment.proofs.Stations.{next_station, not_before}
use Rattle.ldp_alignment.proofs.reader.Reader.third.Goals as goal

pub invariant_of-self-2 : goal.invariant_of-self-2
invariant_of-self-2 c =
    let kept = c.self.invariant in
    let along = c.in_ok-along.along in
    let last = c.self.inside.last in
    let range = c.in_ok-along.ensures.range in
    let px = to_z-of_z w128 c.args.x c.ranges.x in
    let py = to_z-of_z w128 c.args.y c.ranges.y in
    let pa : to_z w64 (of_z w64 along) ≡ along = omega (arith, ints, range.0, range.1) in
    let pl : to_z w64 (of_z w64 last) ≡ last = omega (arith, ints, kept.range.0, kept.range.1) in
    let more = rw (px, py, pa) at c.in_ok-push.ensures.items in
    let x = ap (λ (p : Progress). p.x) c.self.view_is ∙ c.requires.x in
    let y = ap (λ (p : Progress). p.y) c.self.view_is ∙ c.requires.y in
    let before : Progress = record {
      stations = c.self.inside.stations.items;
      last = last;
      x = c.self.inside.x;
      y = c.self.inside.y;
    } in
    next_station before c.args.x c.args.y along _ c.push.new.self.items kept x y range
    (not_before along last (simp (pa, pl) at c.if-along-self.false)) pa more
