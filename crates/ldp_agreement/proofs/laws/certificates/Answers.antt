use Rattle.ldp_agreement.proofs.Certificates.{best_are_accepted, best_are_shaped}
use Rattle.ldp_agreement.proofs.laws.certificates.Goals as goal

pub returns-clause-accepted : goal.returns-clause-accepted
returns-clause-accepted c = best_are_accepted

pub returns-clause-shape : goal.returns-clause-shape
returns-clause-shape c = best_are_shaped
