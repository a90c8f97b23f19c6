use Rattle.std.proofs.Common.{refl, rules}
use Rattle.ldp_series.specs.Formula.{then}
use Rattle.ldp_series.specs.Series.{growing_round}
use Rattle.ldp_series.proofs.build.Build.growing_round.Goals as goal

pub returns-clause-ok : goal.returns-clause-ok
unfolding growing_round
returns-clause-ok c =
    record {
      made =
          then _ _ _ c.in_ok-one.ensures.ok.made
          (then _ _ _
          (then _ _ _ (then _ _ _ refl (then _ _ _ refl c.in_ok-product.ensures.ok.made))
          (then _ _ _ c.in_ok-whole.ensures.ok.made c.in_ok-quotient.ensures.ok.made))
          c.in_ok-next.ensures.ok.made);
      added = search rules;
    }
