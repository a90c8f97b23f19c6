use Rattle.std.proofs.Common.{refl}
use Rattle.ldp_series.specs.Formula.{then}
use Rattle.ldp_series.specs.StepList.{list_of-is}
use Rattle.ldp_lambert2.specs.LambertTwo.{design_formula}
use Rattle.ldp_lambert2.proofs.design.design_list.Goals as goal

pub returns-clause-exact : goal.returns-clause-exact
unfolding design_formula
returns-clause-exact c =
    list_of-is 4 (design_formula 0 1 2 3) _ _ _ _ c.in_ok-build.ensures.ok
    (then _ _ _ c.in_ok-first.ensures.ok
    (then _ _ _ c.in_ok-m1.ensures.made
    (then _ _ _ c.in_ok-q1.ensures.made
    (then _ _ _ c.in_ok-second.ensures.ok
    (then _ _ _ c.in_ok-m2.ensures.made
    (then _ _ _ c.in_ok-q2.ensures.made (then _ _ _ c.in_ok-n.ensures.made refl)))))))
    c.in_ok-list.ensures
