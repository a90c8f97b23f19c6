use Rattle.std.proofs.Common.{refl, rules}
use Rattle.ldp_series.specs.Formula.{then}
use Rattle.ldp_series.specs.Series.{cosine}
use Rattle.ldp_series.proofs.build.Build.append_cosine.Goals as goal

pub returns-clause-ok : goal.returns-clause-ok
unfolding cosine
returns-clause-ok c =
    record {
      made =
          then _ _ _ (then _ _ _ refl c.in_ok-z.ensures.ok.made)
          (then _ _ _ c.in_ok-first.ensures.ok.made c.in_ok-place.ensures.ok.made);
      added = search rules;
    }
