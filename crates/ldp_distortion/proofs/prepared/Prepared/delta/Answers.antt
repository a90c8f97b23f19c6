use Rattle.std.proofs.Common.{ap, ◌∙◌, sym, List, ℤ}
use Rattle.std.specs.Prelude.{Option, slice_get}
use Rattle.ldp_distortion.proofs.Joints.{with_design, no_delta}
use Rattle.ldp_distortion.proofs.prepared.Prepared.delta.Goals as goal

pub returns-then-not-put_design-clause-distortion :
    goal.returns-then-not-put_design-clause-distortion
returns-then-not-put_design-clause-distortion c =
    no_delta c.args.self.now c.args.at c.args.cell c.if-not-put_design.ensures.design
    c.requires.cell

pub returns-clause-distortion : goal.returns-clause-distortion
returns-clause-distortion c =
    ap (λ (ds : List (Option ℤ)). slice_get ds c.args.cell)
    (sym (with_design c.args.self.now c.args.at _ c.if-not-put_design.ensures.design))
    ∙ c.joined.ensures.distortion
