use Rattle.std.proofs.Common.{refl, rules}
use Rattle.ldp_series.specs.Formula.{then}
use Rattle.ldp_series.specs.Series.{odd_polynomial}
use Rattle.ldp_series.proofs.build.Build.odd_polynomial.Goals as goal

pub returns-clause-ok : goal.returns-clause-ok
unfolding odd_polynomial
returns-clause-ok c =
    record {
      made =
          then _ _ _ (then _ _ _ refl c.in_ok-z.ensures.ok.made)
          (then _ _ _ c.in_ok-p.ensures.ok.made
          (then _ _ _ refl (then _ _ _ refl c.in_ok-product.ensures.ok.made)));
      added = search rules;
    }
