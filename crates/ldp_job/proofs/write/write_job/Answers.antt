use Rattle.std.proofs.Common.{◌≡◌, ◌++◌, to_z, of_z, ap, ◌∙◌, arith}
use Rattle.std.specs.Int.{w128}
use Rattle.ldp_num.specs.Number.{limit}
use Rattle.ldp_job.specs.declared.job.Job.{Job}
use Rattle.ldp_job.specs.Texts.{version_words, names_words, design_words, worst_words, forest_words}
use Rattle.ldp_spelling.specs.Texts.{line_text, lines_text}
use Rattle.ldp_job.specs.Pushed.{projection_words, cell_words}
use Rattle.ldp_job.proofs.Plain.{abs_most}
use Rattle.ldp_job.proofs.Pushes.{seven, parts_text, held}
use Rattle.ldp_job.proofs.write.write_job.Goals as goal

pub returns : goal.returns
returns c =
    let j : Job = c.args.job.now in
    let kept : to_z w128 (of_z w128 c.args.job.now.worst) ≡ c.args.job.now.worst =
    held c.args.job.now.worst
    (abs_most limit c.args.job.now.worst c.requires.worst (omega arith)) in
    let worst : c.push_worst.new.text ≡ c.push_design.new.text
    ++ line_text (worst_words j.worst j.share) =
    c.in_ok-push_worst.ensures
    ∙ ap (λ z. c.push_design.new.text ++ line_text (worst_words z c.args.job.now.share)) kept in
    seven c.new-text.result c.push_version.new.text c.push_names.new.text c.push_design.new.text
    c.push_worst.new.text c.push_projection.new.text c.push_cells.new.text
    c.push_forest.new.text
    (line_text (version_words j.names)) (lines_text (names_words j.names))
    (line_text (design_words j.design)) (line_text (worst_words j.worst j.share))
    (lines_text (projection_words j.report)) (lines_text (cell_words j.report))
    (lines_text (forest_words j.forest))
    c.new-text.ensures c.in_ok-push_version.ensures c.in_ok-push_names.ensures
    c.in_ok-push_design.ensures worst
    c.in_ok-push_projection.ensures c.in_ok-push_cells.ensures c.in_ok-push_forest.ensures
    ∙ parts_text j
