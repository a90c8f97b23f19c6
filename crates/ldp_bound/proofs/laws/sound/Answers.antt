use Rattle.ldp_bound.proofs.Sound.{plain_sound}
use Rattle.ldp_bound.proofs.laws.sound.Goals as goal

pub returns : goal.returns
returns c = plain_sound
