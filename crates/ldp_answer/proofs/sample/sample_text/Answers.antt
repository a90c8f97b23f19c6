use Rattle.std.proofs.Common.{◌<◌, length, subst, sym, ◌∙◌}
use Rattle.ldp_spelling.specs.Pieces.{lines}
use Rattle.ldp_answer.proofs.SampleTexts.{job_lines}
use Rattle.ldp_answer.proofs.sample.sample_text.Goals as goal

pub push_report-requires : goal.push_report-requires
push_report-requires c =
    subst (λ text. 12 < length (lines text)) (sym (c.bytes.ensures ∙ c.in_ok-certificate.ensures))
    (job_lines c.args.job.now)
