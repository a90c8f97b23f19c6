use Rattle.std.proofs.Common.{refl}
use Rattle.ldp_series.specs.Formula.{then}
use Rattle.ldp_series.specs.StepList.{list_of-is}
use Rattle.ldp_hotine.specs.Hotine.{design_formula}
use Rattle.ldp_hotine.proofs.design.design_list.Goals as goal

pub returns-clause-exact : goal.returns-clause-exact
unfolding design_formula
returns-clause-exact c =
    list_of-is 4 (design_formula c.args.south 0 1 2 3) _ _ _ _ c.in_ok-build.ensures.ok
    (then _ _ _ c.in_ok-centre.ensures.ok
    (then _ _ _ c.in_ok-qc.ensures.made
    (then _ _ _ c.in_ok-b.ensures.made
    (then _ _ _ c.in_ok-ratio.ensures.made
    (then _ _ _ c.in_ok-a.ensures.made
    (then _ _ _ c.in_ok-d.ensures.made
    (then _ _ _ c.in_ok-f.ensures.made
    (then _ _ _ c.in_ok-g.ensures.made
    (then _ _ _ c.in_ok-v.ensures.ok.made
    (then _ _ _ (then _ _ _ refl (then _ _ _ refl c.in_ok-sg.ensures.ok.made))
    (then _ _ _ c.in_ok-cg.ensures.made (then _ _ _ c.in_ok-l0.ensures.made refl))))))))))))
    c.in_ok-list.ensures
