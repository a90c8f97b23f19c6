use Rattle.std.proofs.Common.{refl, rules}
use Rattle.std.proofs.lemmas.Int.{to_z-of_z}
use Rattle.ldp_series.specs.Formula.{then}
use Rattle.ldp_series.specs.Series.{horner}
use Rattle.ldp_series.proofs.build.Build.horner.Goals as goal

pub returns-clause-ok : goal.returns-clause-ok
unfolding horner
returns-clause-ok c =
    let fits = c.ranges.c in
    let constant = simp to_z-of_z at c.in_ok-c.ensures.ok.made in
    record {
      made =
          then _ _ _ (then _ _ _ refl (then _ _ _ refl c.in_ok-product.ensures.ok.made))
          (then _ _ _ constant c.in_ok-sum.ensures.ok.made);
      added = search rules;
    }
