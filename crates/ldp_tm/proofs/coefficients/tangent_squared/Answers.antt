use Rattle.std.proofs.Common.{refl, rules}
use Rattle.ldp_series.specs.Formula.{then}
use Rattle.ldp_tm.specs.TransverseMercator.{tangent_squared}
use Rattle.ldp_tm.proofs.coefficients.tangent_squared.Goals as goal

pub returns : goal.returns
unfolding tangent_squared
returns c =
    record {
      made =
          then _ _ _ (then _ _ _ refl (then _ _ _ refl c.in_ok-tangent.ensures.ok.made))
          c.in_ok-square.ensures.ok.made;
      added = search rules;
    }
