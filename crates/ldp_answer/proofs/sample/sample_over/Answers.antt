use Rattle.std.proofs.Common.{◌≡◌, take, drop, refl, sym, ap, subst, ◌∙◌, inl}
use Rattle.std.specs.Prelude.{codes}
use Rattle.ldp_spelling.specs.Pieces.{lines}
use Rattle.ldp_job.specs.Texts.{job_text}
use Rattle.ldp_check.specs.declared.verdict.Verdict.TheVariants.{Accepted}
use Rattle.ldp_answer.specs.declared.answer.Answer.{Answer}
use Rattle.ldp_answer.specs.Check.{verdict_over, check_text}
use Rattle.ldp_answer.specs.Sample.{no_files, sample_text, EndsAccepted}
use Rattle.ldp_answer.proofs.SampleTexts.{ends_accepted}
use Rattle.ldp_answer.proofs.sample.sample_over.Goals as goal

pub returns-clause-accepted : goal.returns-clause-accepted
returns-clause-accepted c =
    let j = c.in_ok-job.job in
    let verdict : verdict_over c.in_ok-cells.cells c.in_ok-grids.grids.families no_files j
    ≡ Accepted =
    (c.in_ok-job.ensures.accepted no_files (inl refl)).verdict in
    let checked : c.bytes.result.now ≡ codes "accepted\n" =
    c.bytes.ensures
    ∙ ap (λ (a : Answer). a.text) (c.in_ok-checked.ensures.answer ∙ ap check_text verdict) in
    subst EndsAccepted (sym (c.in_ok-text.ensures ∙ ap (sample_text c.args.number j) checked))
    (ends_accepted c.args.number (take 11 (drop 1 (lines (job_text j)))))
