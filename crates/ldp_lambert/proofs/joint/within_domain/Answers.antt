use Rattle.std.proofs.Common.{refl, rules}
use Rattle.ldp_series.specs.Formula.{then}
use Rattle.ldp_lambert.specs.Lambert.{within_domain}
use Rattle.ldp_lambert.proofs.joint.within_domain.Goals as goal

pub returns : goal.returns
unfolding within_domain
returns c =
    record {
      made =
          then _ _ _
          (then _ _ _ c.in_ok-domain.ensures.ok.made
          (then _ _ _ (then _ _ _ refl c.in_ok-square.ensures.ok.made)
          c.in_ok-rest.ensures.ok.made))
          c.in_ok-within.ensures.ok.made;
      added = search rules;
    }
