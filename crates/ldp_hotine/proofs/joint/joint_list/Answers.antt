use Rattle.std.proofs.Common.{refl}
use Rattle.ldp_series.specs.Formula.{then}
use Rattle.ldp_series.specs.StepList.{list_of-is}
use Rattle.ldp_hotine.specs.Hotine.{joint_formula, given}
use Rattle.ldp_hotine.proofs.joint.joint_list.Goals as goal

pub returns-clause-exact : goal.returns-clause-exact
unfolding joint_formula
returns-clause-exact c =
    list_of-is 11 (joint_formula given) _ _ _ _ c.in_ok-build.ensures.ok
    (then _ _ _ (then _ _ _ refl (then _ _ _ refl c.in_ok-d.ensures.ok.made))
    (then _ _ _ c.in_ok-_near.ensures.made
    (then _ _ _
    (then _ _ _ refl
    (then _ _ _ (then _ _ _ refl (then _ _ _ refl c.in_ok-difference.ensures.ok.made))
    c.in_ok-angle.ensures.ok.made))
    (then _ _ _ c.in_ok-_within.ensures.made
    (then _ _ _ c.in_ok-v.ensures.ok.made
    (then _ _ _ c.in_ok-c.ensures.ok.made
    (then _ _ _ c.in_ok-_ahead.ensures.made
    (then _ _ _ c.in_ok-snyder_q.ensures.made
    (then _ _ _ c.in_ok-n.ensures.made
    (then _ _ _ c.in_ok-k.ensures.made
    (then _ _ _
    (then _ _ _ (then _ _ _ refl (then _ _ _ refl c.in_ok-product.ensures.ok.made))
    (then _ _ _ c.in_ok-one.ensures.ok.made c.in_ok-distortion.ensures.ok.made))
    refl)))))))))))
    c.in_ok-list.ensures
