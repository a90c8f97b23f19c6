use Rattle.std.specs.Prelude.{IsTrue}
use Rattle.ldp_bound.proofs.Carriers.{distortion_follows}
use Rattle.ldp_bound.proofs.laws.following.Goals as goal

pub returns : goal.returns
returns g c = λ R f g follows constants lists of_cell left right t near e.
    distortion_follows (λ a b. IsTrue (R a b)) f g follows constants lists of_cell left right t near
    e
