use Rattle.std.proofs.Common.{ap}
use Rattle.ldp_design.specs.Grids.{DesignGrids}
use Rattle.ldp_bound.proofs.Families.{copied_more}
use Rattle.ldp_bound.proofs.kept.copied.Goals as goal

pub loop-index-preserved : goal.loop-index-preserved
loop-index-preserved c =
    copied_more c.args.grids.now.families c.loop-index.copy.families c.push.new.self.families c.loop-index.index
    c.family.result.now c.family.ensures.value
    (ap (λ (g : DesignGrids). g.families) c.in_ok-push.ensures.ok) c.loop-index.invariant
