use Rattle.ldp_job.proofs.Jobs.{read_again}
use Rattle.ldp_job.proofs.laws.texts_are_read.Goals as goal

pub returns : goal.returns
returns c = read_again
