use Rattle.std.proofs.Common.{refl, rules}
use Rattle.ldp_series.specs.Formula.{then}
use Rattle.ldp_lambert2.specs.LambertTwo.{within_domain}
use Rattle.ldp_lambert2.proofs.design.within_domain.Goals as goal

pub returns : goal.returns
unfolding within_domain
returns c =
    record {
      made =
          then _ _ _
          (then _ _ _ refl (then _ _ _ c.in_ok-domain.ensures.ok.made c.in_ok-rest.ensures.ok.made))
          c.in_ok-within.ensures.ok.made;
      added = search rules;
    }
