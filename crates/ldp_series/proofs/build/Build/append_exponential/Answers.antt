use Rattle.std.proofs.Common.{refl, rules}
use Rattle.ldp_series.specs.Formula.{then}
use Rattle.ldp_series.specs.Series.{exponential}
use Rattle.ldp_series.proofs.build.Build.append_exponential.Goals as goal

pub returns-clause-ok : goal.returns-clause-ok
unfolding exponential
returns-clause-ok c =
    record {
      made =
          then _ _ _
          (then _ _ _ refl (then _ _ _ c.in_ok-sixteen.ensures.ok.made c.in_ok-y.ensures.ok.made))
          (then _ _ _ c.in_ok-first.ensures.ok.made
          (then _ _ _ c.in_ok-r.ensures.ok.made c.in_ok-place.ensures.ok.made));
      added = search rules;
    }
