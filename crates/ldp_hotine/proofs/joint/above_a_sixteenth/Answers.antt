use Rattle.std.proofs.Common.{refl, rules}
use Rattle.ldp_series.specs.Formula.{then}
use Rattle.ldp_hotine.specs.Hotine.{above_a_sixteenth}
use Rattle.ldp_hotine.proofs.joint.above_a_sixteenth.Goals as goal

pub returns : goal.returns
unfolding above_a_sixteenth
returns c =
    record {
      made =
          then _ _ _
          (then _ _ _ refl
          (then _ _ _ c.in_ok-sixteenth.ensures.ok.made c.in_ok-rest.ensures.ok.made))
          c.in_ok-within.ensures.ok.made;
      added = search rules;
    }
