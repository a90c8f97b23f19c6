use Rattle.std.proofs.Common.{rules}
use Rattle.ldp_series.specs.Formula.{then}
use Rattle.ldp_series.specs.Series.{arctangent}
use Rattle.ldp_series.proofs.build.Build.append_arctangent.Goals as goal

pub returns-clause-ok : goal.returns-clause-ok
unfolding arctangent
returns-clause-ok c =
    record {
      made =
          then _ _ _ c.in_ok-y.ensures.ok.made
          (then _ _ _ c.in_ok-series.ensures.ok.made
          (then _ _ _ c.in_ok-eight.ensures.ok.made c.in_ok-place.ensures.ok.made));
      added = search rules;
    }
