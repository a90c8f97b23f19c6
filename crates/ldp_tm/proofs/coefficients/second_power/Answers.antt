use Rattle.std.proofs.Common.{refl, rules}
use Rattle.ldp_series.specs.Formula.{then}
use Rattle.ldp_tm.specs.TransverseMercator.{second_power}
use Rattle.ldp_tm.proofs.coefficients.second_power.Goals as goal

pub returns : goal.returns
unfolding second_power
returns c =
    record {
      made =
          then _ _ _
          (then _ _ _ c.in_ok-one.ensures.ok.made (then _ _ _ refl c.in_ok-sum.ensures.ok.made))
          (then _ _ _ c.in_ok-two.ensures.ok.made c.in_ok-quotient.ensures.ok.made);
      added = search rules;
    }
