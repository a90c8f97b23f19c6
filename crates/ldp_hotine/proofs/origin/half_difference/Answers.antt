use Rattle.std.proofs.Common.{refl, rules}
use Rattle.ldp_series.specs.Formula.{then}
use Rattle.ldp_hotine.specs.Hotine.{half_difference}
use Rattle.ldp_hotine.proofs.origin.half_difference.Goals as goal

pub returns : goal.returns
unfolding half_difference
returns c =
    record {
      made =
          then _ _ _
          (then _ _ _ refl
          (then _ _ _
          (then _ _ _ c.in_ok-one.ensures.ok.made
          (then _ _ _ refl c.in_ok-reciprocal.ensures.ok.made))
          c.in_ok-difference.ensures.ok.made))
          (then _ _ _ c.in_ok-two.ensures.ok.made c.in_ok-half.ensures.ok.made);
      added = search rules;
    }
