use Rattle.std.proofs.Common.{refl}
use Rattle.ldp_series.specs.Formula.{then}
use Rattle.ldp_series.specs.StepList.{list_of-is}
use Rattle.ldp_lambert.specs.Lambert.{design_formula}
use Rattle.ldp_lambert.proofs.design.design_list.Goals as goal

pub returns-clause-exact : goal.returns-clause-exact
unfolding design_formula
returns-clause-exact c =
    list_of-is 4 (design_formula 0 1 2 3) _ _ _ _ c.in_ok-build.ensures.ok
    (then _ _ _ c.in_ok-parallel.ensures.ok
    (then _ _ _ c.in_ok-m1.ensures.made (then _ _ _ c.in_ok-q1.ensures.made refl)))
    c.in_ok-list.ensures
