use Rattle.ldp_answer.proofs.Upgrades.{upgraded_are_accepted}
use Rattle.ldp_answer.proofs.laws.upgraded.Goals as goal

pub returns : goal.returns
returns c = upgraded_are_accepted
