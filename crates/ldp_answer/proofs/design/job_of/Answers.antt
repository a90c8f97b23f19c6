use Rattle.std.proofs.Common.{ℤ, arith, subst, sym}
use Rattle.std.proofs.lemmas.Int.{ints, to_z-of_z, fits_signed_from_abs}
use mir.Syntax.{w128}
use mir.Val.{to_z, of_z}
use Rattle.ldp_job.specs.Values.{IsWorst}
use Rattle.ldp_answer.proofs.design.job_of.Goals as goal

kept : (worst : ℤ) → IsWorst worst → IsWorst (to_z w128 (of_z w128 worst))
kept worst h =
    subst IsWorst
    (sym (to_z-of_z w128 worst (fits_signed_from_abs w128 worst (omega (arith, ints, h.0, h.1))))) h

pub returns-clause-values : goal.returns-clause-values
returns-clause-values c = record {
  names = c.requires.names;
  worst = kept c.args.found.worst c.requires.worst;
  report = c.report_of-report.ensures.range (kept c.args.found.worst c.requires.worst);
}
