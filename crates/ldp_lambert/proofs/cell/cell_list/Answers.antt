use Rattle.std.proofs.Common.{refl}
use Rattle.ldp_series.specs.Formula.{then}
use Rattle.ldp_series.specs.StepList.{list_of-is}
use Rattle.ldp_lambert.specs.Lambert.{cell_formula}
use Rattle.ldp_lambert.proofs.cell.cell_list.Goals as goal

pub returns-clause-exact : goal.returns-clause-exact
unfolding cell_formula
returns-clause-exact c =
    list_of-is 3 (cell_formula 0 1 2) _ _ _ _ c.in_ok-build.ensures.ok
    (then _ _ _ c.in_ok-place.ensures.ok
    (then _ _ _ c.in_ok-m.ensures.made
    (then _ _ _ c.in_ok-q.ensures.made (then _ _ _ c.in_ok-factor.ensures.made refl))))
    c.in_ok-list.ensures
