use Rattle.std.proofs.Common.{ap, ◌∙◌}
use Rattle.ldp_job.specs.Reading.{job}
use Rattle.ldp_job.proofs.Jobs.{found_if, read_again}
use Rattle.ldp_job.proofs.read.read_job.Goals as goal

pub returns-clause-found : goal.returns-clause-found
returns-clause-found c = found_if c.args.text.now c.read.result c.read.ensures.exact

pub returns-clause-only : goal.returns-clause-only
returns-clause-only c = λ j is same wanted. c.read.ensures.exact wanted
    ∙ (ap job same ∙ read_again j is)
