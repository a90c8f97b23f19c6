use Rattle.std.proofs.Common.{length, take, ap, sym, ◌∙◌}
use Rattle.ldp_num.specs.StepList.{value}
use Rattle.ldp_bound.proofs.Runs.{run_numbers}
use Rattle.ldp_bound.proofs.inputs.put_design.Goals as goal

pub returns : goal.returns
returns c =
    let list = c.args.cells.now.lists.design in
    record {
      value =
          ap (value list) (sym c.number_inputs.ensures)
          ∙ run_numbers list c.number_inputs.result c.put_results.result
          (take (length list.outs) c.put_results.new.inputs)
          c.put_results.ensures.value;
    }
