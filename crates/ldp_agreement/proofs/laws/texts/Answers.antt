use Rattle.ldp_agreement.proofs.Texts.{best_have_texts, best_are_read_back}
use Rattle.ldp_agreement.proofs.laws.texts.Goals as goal

pub returns-clause-valid : goal.returns-clause-valid
returns-clause-valid c = best_have_texts

pub returns-clause-read : goal.returns-clause-read
returns-clause-read c = best_are_read_back
