use Rattle.std.proofs.Common.{refl, rules}
use Rattle.ldp_series.specs.Formula.{then}
use Rattle.ldp_hotine.specs.Hotine.{natural_origin}
use Rattle.ldp_hotine.proofs.origin.natural_origin.Goals as goal

pub returns : goal.returns
unfolding natural_origin
returns c =
    record {
      made =
          then _ _ _
          (then _ _ _ refl
          (then _ _ _ (then _ _ _ refl (then _ _ _ refl c.in_ok-tangent.ensures.ok.made))
          c.in_ok-x.ensures.ok.made))
          (then _ _ _
          (then _ _ _ refl (then _ _ _ c.in_ok-cosine.ensures.made c.in_ok-y.ensures.ok.made))
          (then _ _ _ refl
          (then _ _ _
          (then _ _ _ c.in_ok-angle.ensures.ok.made
          (then _ _ _ refl c.in_ok-shift.ensures.ok.made))
          c.in_ok-origin.ensures.ok.made)));
      added = search rules;
    }
