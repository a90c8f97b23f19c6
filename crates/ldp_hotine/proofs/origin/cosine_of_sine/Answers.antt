use Rattle.std.proofs.Common.{refl, rules}
use Rattle.ldp_series.specs.Formula.{then}
use Rattle.ldp_hotine.specs.Hotine.{cosine_of_sine}
use Rattle.ldp_hotine.proofs.origin.cosine_of_sine.Goals as goal

pub returns : goal.returns
unfolding cosine_of_sine
returns c =
    record {
      made =
          then _ _ _
          (then _ _ _ c.in_ok-one.ensures.ok.made
          (then _ _ _ (then _ _ _ refl c.in_ok-square.ensures.ok.made)
          c.in_ok-rest.ensures.ok.made))
          c.in_ok-root.ensures.ok.made;
      added = search rules;
    }
