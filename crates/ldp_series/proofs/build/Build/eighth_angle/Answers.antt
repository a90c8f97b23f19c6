use Rattle.std.proofs.Common.{refl, rules}
use Rattle.ldp_series.specs.Formula.{then}
use Rattle.ldp_series.specs.Series.{repeated}
use Rattle.ldp_series.proofs.build.Build.eighth_angle.Goals as goal

pub returns-clause-ok : goal.returns-clause-ok
unfolding repeated
returns-clause-ok c =
    record {
      made =
          then _ _ _ c.in_ok-half.ensures.ok.made
          (then _ _ _ c.in_ok-quarter.ensures.ok.made
          (then _ _ _ c.in_ok-eighth.ensures.ok.made refl));
      added = search rules;
    }
