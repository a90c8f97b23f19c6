use Rattle.std.proofs.Common.{ap, ◌∙◌}
use Rattle.ldp_distortion.specs.Worst.{worst_of}
use Rattle.ldp_distortion.proofs.Joints.{with_design}
use Rattle.ldp_distortion.specs.Prepared.{distortions_of}
use Rattle.ldp_distortion.specs.declared.worst.Worst.TheVariants.{Unusable}
use Rattle.ldp_distortion.proofs.Worsts.{no_design_worst}
use Rattle.ldp_distortion.proofs.Usable.{value_where_usable}
use Rattle.ldp_distortion.proofs.prepared.Prepared.worst.Goals as goal

pub returns-then-not-put_design-clause-worst : goal.returns-then-not-put_design-clause-worst
returns-then-not-put_design-clause-worst c =
    no_design_worst c.args.self.now c.args.at c.if-not-put_design.ensures.design c.requires.some

pub returns-then-not-put_design-clause-usable : goal.returns-then-not-put_design-clause-usable
returns-then-not-put_design-clause-usable c =
    value_where_usable (Unusable 0) (distortions_of c.args.self.now c.args.at)
    (no_design_worst c.args.self.now c.args.at c.if-not-put_design.ensures.design c.requires.some)

pub returns-clause-usable : goal.returns-clause-usable
returns-clause-usable c =
    value_where_usable c.worst_from.result (distortions_of c.args.self.now c.args.at)
    (c.worst_from.ensures.worst
    ∙ ap worst_of (with_design c.args.self.now c.args.at _ c.if-not-put_design.ensures.design))

pub returns-clause-worst : goal.returns-clause-worst
returns-clause-worst c =
    c.worst_from.ensures.worst
    ∙ ap worst_of (with_design c.args.self.now c.args.at _ c.if-not-put_design.ensures.design)
