use Rattle.ldp_zone.proofs.Within as lemmas
use Rattle.ldp_zone.proofs.laws.inside_is_near.Goals as goal

pub returns : goal.returns
returns c = lemmas.inside_is_near
