use Rattle.std.proofs.Common.{◌≡◌, ◌++◌, length, take, List, sym, ap, ◌∙◌, subst, arith}
use Rattle.std.proofs.lemmas.List.{take_all, take-append-le}
use Rattle.std.specs.Prelude.{Some, None, if◌then◌else◌}
use Rattle.ldp_num.specs.StepList.{value}
use Rattle.ldp_num.specs.declared.fix.Fix.{Fix}
use Rattle.ldp_distortion.specs.Inputs.{numbers, design_inputs as inputs_of_design}
use Rattle.ldp_distortion.specs.Prepared.{PreparedCells}
use Rattle.ldp_distortion.proofs.Runs.{run_numbers}
use Rattle.ldp_distortion.proofs.prepared.Prepared.put_design.Goals as goal

pub returns-clause-design : goal.returns-clause-design
returns-clause-design c =
    let design = c.self.inside.lists.design in
    let front = c.run_into.new.results in
    let back = c.split_at_mut-design.result.1.now in
    let outs : length c.outs.result.now ≡ length design.outs = ap length c.outs.ensures.outs in
    let count : length front ≡ length design.outs =
    omega (arith, outs, c.run_into.auto.results, c.split_at_mut-design.ensures.front_len) in
    let own : take (length design.outs) (front ++ back) ≡ front =
    take-append-le (length design.outs) front back (omega arith) ∙ take_all (length design.outs)
    front (omega arith) in
    let P : PreparedCells → Type 0 =
    λ p. value p.lists.design (inputs_of_design c.args.at.now)
    ≡ (if c.run_into.result then Some (numbers (take (length p.lists.design.outs) (front ++ back)))
    else None) in
    subst P c.self.view_is
    (ap (value design) (sym c.design_inputs.ensures)
    ∙ run_numbers design c.design_inputs.result c.run_into.result front c.run_into.ensures.value
    ∙ ap (λ (fs : List Fix). if c.run_into.result then Some (numbers fs) else None) (sym own))
