use Rattle.std.proofs.Common.{refl, rules}
use Rattle.ldp_series.specs.Formula.{then}
use Rattle.ldp_series.specs.Series.{sine}
use Rattle.ldp_series.proofs.build.Build.append_sine.Goals as goal

pub returns-clause-ok : goal.returns-clause-ok
unfolding sine
returns-clause-ok c =
    record {
      made =
          then _ _ _ (then _ _ _ refl c.in_ok-z.ensures.ok.made)
          (then _ _ _ c.in_ok-first.ensures.ok.made
          (then _ _ _ c.in_ok-r.ensures.ok.made
          (then _ _ _ refl (then _ _ _ refl c.in_ok-place.ensures.ok.made))));
      added = search rules;
    }
