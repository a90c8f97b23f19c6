use Rattle.ldp_num.proofs.Roots.{is-root}
use Rattle.ldp_num.proofs.laws.whole_root.Goals as goal

pub returns : goal.returns
returns c = is-root
