use Rattle.std.proofs.Common.{◌≡◌, None, sym, ap, ◌∙◌}
use Rattle.ldp_design.specs.Families.{AreGrids}
use Rattle.ldp_problem.specs.Problem.{Problem}
use Rattle.ldp_check.specs.Verdicts.{reason_against, verdict_by}
use Rattle.ldp_check.proofs.Answered.{none_gives}
use Rattle.ldp_check.proofs.Verdicts.{accepted_are_proved}
use Rattle.ldp_check.proofs.checker.check_in.Goals as goal

pub returns-in-None-clause-proved : goal.returns-in-None-clause-proved
returns-in-None-clause-proved g c _ =
    let p : Problem = g.B.Bounds.problem c.args.bounds.now in
    let none : reason_against p c.args.cells.now c.args.names.now c.args.job.now ≡ None =
    sym c.reason_against.ensures.reason ∙ c.in-None.is in
    let grids : AreGrids p.families =
    rw c.requires.families (none_gives c.reason_against.result _ c.in-None.is
    c.reason_against.ensures.grids) in
    accepted_are_proved p c.args.cells.now c.args.names.now c.args.job.now
    (g.met.B.Bounds.sound c.args.bounds.now) grids
    c.requires.tolerance c.requires.forest (ap verdict_by none)
