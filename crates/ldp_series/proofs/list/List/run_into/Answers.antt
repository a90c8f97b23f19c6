use Rattle.std.proofs.Common.{true, false, ◌∙◌}
use Rattle.ldp_num.specs.Written.{written}
use Rattle.ldp_series.proofs.Runs.{run_value}
use Rattle.ldp_series.proofs.list.List.run_into.Goals as goal

pub returns-then-not-run-clause-value : goal.returns-then-not-run-clause-value
returns-then-not-run-clause-value g c =
    run_value (written g.N.Num.CARRIER) g.N.Num.meaning c.args.self.now c.args.inputs.now
    c.steps.result.now false
    c.run.new.self.results c.steps.ensures.steps c.if-not-run.ensures.results

pub returns-clause-value : goal.returns-clause-value
returns-clause-value g c =
    run_value (written g.N.Num.CARRIER) g.N.Num.meaning c.args.self.now c.args.inputs.now
    c.steps.result.now true
    c.run.new.self.results c.steps.ensures.steps c.if-not-run.ensures.results
    ∙ c.put_results.ensures
