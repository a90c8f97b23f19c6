use Rattle.std.proofs.Common.{sym, ap, ◌∙◌}
use Rattle.std.proofs.lemmas.Int.{to_z-of_z}
use mir.Val.{SFits}
use mir.Syntax.{w128}
use Rattle.ldp_check.specs.Verdicts.{other_report}
use Rattle.ldp_check.proofs.printed.report_differs.Goals as goal

pub returns : goal.returns
returns c =
    let fits : SFits w128 c.args.worst = c.ranges.worst in
    let actual = simp to_z-of_z at c.report_of-actual.ensures.value in
    let report = rw c.node_count-nodes.ensures at actual in
    c.other_report.ensures ∙ ap (other_report c.args.job.now.names c.args.job.now.report)
    (sym report)
