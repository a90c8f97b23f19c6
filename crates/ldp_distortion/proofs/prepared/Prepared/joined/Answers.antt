use Rattle.std.proofs.Common.{ap, sym, ◌∙◌, ℤ, rules}
use Rattle.std.proofs.lemmas.Int.{to_z-of_z}
use Rattle.std.specs.Prelude.{Some, None}
use mir.Val.{SFits}
use mir.Syntax.{w128}
use Rattle.ldp_distortion.proofs.Joints.{plain_at}
use Rattle.ldp_distortion.proofs.prepared.Prepared.joined.Goals as goal

pub returns-in_err-distortion-clause-distortion : goal.returns-in_err-distortion-clause-distortion
returns-in_err-distortion-clause-distortion c =
    plain_at c.args.self.now c.args.inputs.now c.args.cell None c.requires.cell
    c.in_err-distortion.ensures.distortion
    ∙ ap Some (sym c.from_residual.ensures)

pub returns-clause-distortion : goal.returns-clause-distortion
returns-clause-distortion c =
    let fits : SFits w128 c.in_ok-distortion.distortion.n = search rules in
    plain_at c.args.self.now c.args.inputs.now c.args.cell (Some c.in_ok-distortion.distortion)
    c.requires.cell
    c.in_ok-distortion.ensures.distortion
    ∙ ap (λ (z : ℤ). Some (Some z)) (sym (to_z-of_z w128 c.in_ok-distortion.distortion.n fits))
