use Rattle.std.specs.Prelude.{IsTrue}
use Rattle.ldp_range.proofs.Follows.{results_follow, values_follow}
use Rattle.ldp_range.proofs.laws.following.Goals as goal

pub returns-clause-value : goal.returns-clause-value
returns-clause-value g c =
    λ R f h follows. values_follow (λ x y. IsTrue (R x y)) f h follows

pub returns-clause-steps : goal.returns-clause-steps
returns-clause-steps g c =
    λ R f h follows. results_follow (λ x y. IsTrue (R x y)) f h follows
