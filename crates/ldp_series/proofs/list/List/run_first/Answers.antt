use Rattle.std.proofs.Common.{true, false, length, sym, ap, ◌∙◌}
use Rattle.ldp_num.specs.Written.{written}
use Rattle.ldp_num.specs.StepList.{first_result}
use Rattle.ldp_series.proofs.Runs.{run_value, first_value}
use Rattle.ldp_series.proofs.list.List.run_first.Goals as goal

pub returns-then-not-run-clause-first : goal.returns-then-not-run-clause-first
returns-then-not-run-clause-first g c =
    sym (ap first_result
    (run_value (written g.N.Num.CARRIER) g.N.Num.meaning c.args.self.now c.args.inputs.now
    c.steps.result.now false c.run.new.self.results c.steps.ensures.steps
    c.if-not-run.ensures.results))

pub returns-clause-first : goal.returns-clause-first
returns-clause-first g c =
    sym (ap first_result
    (run_value (written g.N.Num.CARRIER) g.N.Num.meaning c.args.self.now c.args.inputs.now
    c.steps.result.now true c.run.new.self.results c.steps.ensures.steps
    c.if-not-run.ensures.results)
    ∙ first_value g.N.Num.meaning c.run.new.self.results c.args.self.now.outs
    (length c.args.self.now.steps) c.at.result
    (c.if-not-run.ensures.one_each ∙ ap length c.steps.ensures.steps) c.outs.ensures.placed
    c.requires.results
    (rw c.outs.ensures.outs at c.at.ensures))
