use Rattle.std.proofs.Common.{length, take, ap, sym, ◌∙◌}
use Rattle.ldp_num.specs.StepList.{value_in}
use Rattle.ldp_num.specs.Written.{range_ops}
use Rattle.ldp_bound.proofs.Runs.{run_pairs}
use Rattle.ldp_bound.proofs.inputs.put_box.Goals as goal

pub returns : goal.returns
returns c =
    let list = c.args.cells.now.lists.design in
    record {
      value =
          ap (value_in range_ops list) (sym c.pair_inputs.ensures)
          ∙ run_pairs list c.pair_inputs.result c.put_results.result
          (take (length list.outs) c.put_results.new.inputs)
          c.put_results.ensures.value;
    }
