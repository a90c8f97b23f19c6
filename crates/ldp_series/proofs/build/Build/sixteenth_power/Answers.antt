use Rattle.std.proofs.Common.{refl, rules}
use Rattle.ldp_series.specs.Formula.{then}
use Rattle.ldp_series.specs.Series.{repeated}
use Rattle.ldp_series.proofs.build.Build.sixteenth_power.Goals as goal

pub returns-clause-ok : goal.returns-clause-ok
unfolding repeated
returns-clause-ok c =
    record {
      made =
          then _ _ _ (then _ _ _ refl c.in_ok-second.ensures.ok.made)
          (then _ _ _ (then _ _ _ refl c.in_ok-fourth.ensures.ok.made)
          (then _ _ _ (then _ _ _ refl c.in_ok-eighth.ensures.ok.made)
          (then _ _ _ (then _ _ _ refl c.in_ok-sixteenth.ensures.ok.made) refl)));
      added = search rules;
    }
