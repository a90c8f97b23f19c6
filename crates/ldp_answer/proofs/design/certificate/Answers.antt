use Rattle.std.proofs.Common.{◌<◌, length, option_map, unsigned_abs, subst, sym}
use Rattle.ldp_problem.proofs.Facts.{worst_at_cell}
use Rattle.ldp_answer.specs.Problem.{problem_over}
use Rattle.ldp_answer.proofs.Designs.{IsKnown, has_text, found_job, accepted_job}
use Rattle.ldp_answer.proofs.design.certificate.Goals.{After-job_of}
use Rattle.ldp_answer.proofs.design.certificate.Goals as goal

pub job_of-requires-clause-cell : goal.job_of-requires-clause-cell
job_of-requires-clause-cell c =
    subst (λ cell. cell < length c.args.cells.now.cells) (sym c.requires.cost.cell)
    (worst_at_cell (problem_over c.args.grids.now.families c.args.cells.now.cells
    (option_map unsigned_abs c.args.tolerance)) c.args.found.design c.requires.some)

known : (c : After-job_of) → IsKnown c.args.grids.now.families c.args.cells.now c.args.names
    c.args.tolerance c.args.budget c.args.found c.job_of.result
known c = record {
  grids = c.families-families.ensures.grids;
  some = c.requires.some;
  few = c.len-count.ensures.keeps.few;
  within = c.requires.tolerance;
  most = c.requires.few;
  printed = record {
    found = c.requires.found;
    cost = c.requires.cost;
    names_are = c.job_of.ensures.names;
    design = c.job_of.ensures.design;
    worst = c.job_of.ensures.worst;
    share = c.job_of.ensures.share;
    report = c.job_of.ensures.report;
    forest_is = c.job_of.ensures.forest;
  };
  values = c.job_of.ensures.values;
}

pub returns-clause-valid : goal.returns-clause-valid
returns-clause-valid c = has_text _ _ _ _ _ _ _ (known c)

pub returns-clause-job : goal.returns-clause-job
returns-clause-job c = found_job _ _ _ _ _ _ _ (known c)

pub returns-clause-accepted : goal.returns-clause-accepted
returns-clause-accepted c = accepted_job _ _ _ _ _ _ _ (known c)
