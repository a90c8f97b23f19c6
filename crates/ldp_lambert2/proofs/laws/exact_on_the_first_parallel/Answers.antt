use Rattle.std.proofs.Common.{◌≡◌, pos, sym, ap, ◌∙◌}
use Rattle.std.proofs.lemmas.Option.{same_Some}
use Rattle.ldp_num.specs.Number.{one}
use Rattle.ldp_series.specs.StepList.{value}
use Rattle.ldp_lambert.specs.Lambert.{joint_list}
use Rattle.ldp_lambert2.proofs.Joint.{joint-zero}
use Rattle.ldp_lambert2.proofs.Values.{at, design-values, cell-values, joint-inputs}
use Rattle.ldp_lambert2.proofs.laws.exact_on_the_first_parallel.Goals as goal

pub returns : goal.returns
returns c first longitude second along design cell distortion of_design of_cell of_joint =
    let given = design-values first longitude second (pos one) design of_design in
    let there = cell-values first along cell of_cell in
    let same : there.0 ≡ given.0 = same_Some _ _ (sym there.1 ∙ given.2) in
    let all = joint-inputs design cell given.0 there.0 given.1 given.3 there.2 same in
    joint-zero given.1 (at given.0 244) (at given.0 141) distortion
    (ap (value joint_list) (sym all) ∙ of_joint)
