use Rattle.std.proofs.Common.{refl, rules}
use Rattle.ldp_series.specs.Formula.{then}
use Rattle.ldp_series.specs.Series.{difference_over_sum}
use Rattle.ldp_series.proofs.build.Build.difference_over_sum.Goals as goal

pub returns-clause-ok : goal.returns-clause-ok
unfolding difference_over_sum
returns-clause-ok c =
    record {
      made =
          then _ _ _
          (then _ _ _ refl
          (then _ _ _ c.in_ok-one.ensures.ok.made c.in_ok-difference.ensures.ok.made))
          (then _ _ _
          (then _ _ _ refl
          (then _ _ _ c.in_ok-one_again.ensures.ok.made c.in_ok-sum.ensures.ok.made))
          c.in_ok-y.ensures.ok.made);
      added = search rules;
    }
