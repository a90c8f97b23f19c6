use Rattle.std.proofs.Common.{refl, inr}
use Rattle.ldp_answer.proofs.design.design_over.Goals as goal

pub returns-clause-accepted : goal.returns-clause-accepted
returns-clause-accepted c = record {
  accepted = c.in_ok-job.job;
  is = c.in_ok-job.ensures.accepted c.args.names.now (inr refl);
  same = c.in_ok-text.ensures;
}
