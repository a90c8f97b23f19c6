use Rattle.std.proofs.Common.{rules}
use Rattle.ldp_series.specs.Formula.{then}
use Rattle.ldp_series.specs.Series.{logarithm}
use Rattle.ldp_series.proofs.build.Build.append_logarithm.Goals as goal

pub returns-clause-ok : goal.returns-clause-ok
unfolding logarithm
returns-clause-ok c =
    record {
      made =
          then _ _ _ c.in_ok-r.ensures.ok.made
          (then _ _ _ c.in_ok-y.ensures.ok.made
          (then _ _ _ c.in_ok-series.ensures.ok.made
          (then _ _ _ c.in_ok-factor.ensures.ok.made c.in_ok-place.ensures.ok.made)));
      added = search rules;
    }
