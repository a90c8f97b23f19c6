use Rattle.ldp_job.proofs.Short.{texts_short}
use Rattle.ldp_job.proofs.laws.texts_are_short.Goals as goal

pub returns : goal.returns
returns c = texts_short
