use Rattle.std.proofs.Common.{refl}
use Rattle.ldp_series.specs.Formula.{then}
use Rattle.ldp_series.specs.StepList.{list_of-is}
use Rattle.ldp_tm.specs.TransverseMercator.{cell_formula}
use Rattle.ldp_tm.proofs.cell.cell_list.Goals as goal

pub returns-clause-exact : goal.returns-clause-exact
unfolding cell_formula
returns-clause-exact c =
    list_of-is 3 (cell_formula 0 1 2) _ _ _ _ c.in_ok-build.ensures.ok
    (then _ _ _ c.in_ok-g.ensures.ok
    (then _ _ _ c.in_ok-t.ensures.made
    (then _ _ _ c.in_ok-u.ensures.made
    (then _ _ _
    (then _ _ _ refl
    (then _ _ _ (then _ _ _ refl c.in_ok-square.ensures.ok.made) c.in_ok-c.ensures.ok.made))
    (then _ _ _ c.in_ok-a1.ensures.made
    (then _ _ _ c.in_ok-a2.ensures.made
    (then _ _ _ c.in_ok-a3.ensures.made (then _ _ _ c.in_ok-factor.ensures.made refl))))))))
    c.in_ok-list.ensures
