use Rattle.std.proofs.Common.{◌<◌, ◌*◌, ap, ◌∙◌, arith}
use Rattle.std.proofs.lemmas.Int.{to_z-of_z}
use mir.Val.{to_z, of_z}
use mir.Syntax.{w128}
use Rattle.ldp_alignment.specs.Heights.{height_at, mean}
use Rattle.ldp_alignment.proofs.Fours.{height_of_four}
use Rattle.ldp_alignment.proofs.between.height_at.Goals as goal

pub returns-clause-value : goal.returns-clause-value
returns-clause-value c =
    let grid = c.args.heights.now in
    let x = to_z w128 (of_z w128 c.args.x) in
    let y = to_z w128 (of_z w128 c.args.y) in
    let spacing = c.spacing.ensures.value in
    let some : 0 < grid.spacing = omega (arith, spacing, c.spacing.ensures.range.0) in
    let weights = c.four_shares.result.weights in
    let heights = c.four_shares.result.heights in
    let told = c.mean.ensures.value ∙ ap (λ n. mean (n * n) weights heights) spacing in
    height_of_four grid x y weights heights c.mean.result some told
    c.four_shares.ensures.weights c.four_shares.ensures.heights
    ∙ ap (λ z. height_at grid z y) (to_z-of_z w128 c.args.x c.ranges.x)
    ∙ ap (λ z. height_at grid c.args.x z) (to_z-of_z w128 c.args.y c.ranges.y)
