use Rattle.std.proofs.Common.{refl, rules}
use Rattle.ldp_series.specs.Formula.{then}
use Rattle.ldp_series.specs.Series.{half_angle}
use Rattle.ldp_series.proofs.build.Build.half_angle.Goals as goal

pub returns-clause-ok : goal.returns-clause-ok
unfolding half_angle
returns-clause-ok c =
    record {
      made =
          then _ _ _ refl
          (then _ _ _
          (then _ _ _ c.in_ok-one.ensures.ok.made
          (then _ _ _
          (then _ _ _
          (then _ _ _ c.in_ok-one_below.ensures.ok.made
          (then _ _ _ (then _ _ _ refl c.in_ok-square.ensures.ok.made)
          c.in_ok-sum.ensures.ok.made))
          c.in_ok-root.ensures.ok.made)
          c.in_ok-divisor.ensures.ok.made))
          c.in_ok-half.ensures.ok.made);
      added = search rules;
    }
