use Rattle.std.proofs.Common.{refl, rules}
use Rattle.ldp_series.specs.Formula.{then}
use Rattle.ldp_tm.specs.TransverseMercator.{fourth_power}
use Rattle.ldp_tm.proofs.coefficients.fourth_power.Goals as goal

pub returns : goal.returns
unfolding fourth_power
returns c =
    record {
      made =
          then _ _ _
          (then _ _ _
          (then _ _ _
          (then _ _ _ c.in_ok-five.ensures.ok.made
          (then _ _ _
          (then _ _ _ refl
          (then _ _ _ c.in_ok-four.ensures.ok.made c.in_ok-t_part.ensures.ok.made))
          c.in_ok-left.ensures.ok.made))
          (then _ _ _
          (then _ _ _ refl
          (then _ _ _
          (then _ _ _ c.in_ok-forty_two.ensures.ok.made
          (then _ _ _
          (then _ _ _ refl
          (then _ _ _ c.in_ok-thirteen.ensures.ok.made c.in_ok-c_part.ensures.ok.made))
          c.in_ok-inner.ensures.ok.made))
          c.in_ok-right.ensures.ok.made))
          c.in_ok-sum.ensures.ok.made))
          (then _ _ _
          (then _ _ _ refl
          (then _ _ _ c.in_ok-twenty_eight.ensures.ok.made c.in_ok-u_part.ensures.ok.made))
          c.in_ok-numerator.ensures.ok.made))
          (then _ _ _ c.in_ok-twenty_four.ensures.ok.made c.in_ok-quotient.ensures.ok.made);
      added = search rules;
    }
