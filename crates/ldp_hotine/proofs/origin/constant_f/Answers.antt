use Rattle.std.proofs.Common.{refl, rules}
use Rattle.ldp_series.specs.Formula.{then}
use Rattle.ldp_hotine.specs.Hotine.{constant_f}
use Rattle.ldp_hotine.proofs.origin.constant_f.Goals as goal

pub returns : goal.returns
unfolding constant_f
returns c =
    record {
      made =
          then _ _ _
          (then _ _ _
          (then _ _ _ (then _ _ _ refl c.in_ok-square.ensures.ok.made)
          (then _ _ _ c.in_ok-one.ensures.ok.made c.in_ok-rest.ensures.ok.made))
          c.in_ok-r.ensures.ok.made)
          c.in_ok-f.ensures.made;
      added = search rules;
    }
