use Rattle.std.proofs.Common.{refl}
use Rattle.ldp_series.specs.Formula.{then}
use Rattle.ldp_series.specs.StepList.{list_of-is}
use Rattle.ldp_tm.specs.TransverseMercator.{joint_formula, given}
use Rattle.ldp_tm.proofs.joint.joint_list.Goals as goal

pub returns-clause-exact : goal.returns-clause-exact
unfolding joint_formula
returns-clause-exact c =
    list_of-is 8 (joint_formula given) _ _ _ _ c.in_ok-build.ensures.ok
    (then _ _ _ (then _ _ _ refl (then _ _ _ refl c.in_ok-d.ensures.ok.made))
    (then _ _ _ c.in_ok-_within.ensures.made
    (then _ _ _ (then _ _ _ refl (then _ _ _ refl c.in_ok-a.ensures.ok.made))
    (then _ _ _ (then _ _ _ refl c.in_ok-z.ensures.ok.made)
    (then _ _ _ c.in_ok-p.ensures.made
    (then _ _ _ (then _ _ _ refl (then _ _ _ refl c.in_ok-k.ensures.ok.made))
    (then _ _ _
    (then _ _ _ (then _ _ _ refl (then _ _ _ refl c.in_ok-product.ensures.ok.made))
    (then _ _ _ c.in_ok-one.ensures.ok.made c.in_ok-distortion.ensures.ok.made))
    refl)))))))
    c.in_ok-list.ensures
