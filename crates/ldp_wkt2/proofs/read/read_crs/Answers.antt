use Rattle.std.proofs.Common.{ap, ◌∙◌}
use Rattle.ldp_wkt2.specs.Reading.{crs}
use Rattle.ldp_wkt2.proofs.Laws.{found_if, crs_again}
use Rattle.ldp_wkt2.proofs.read.read_crs.Goals as goal

pub returns-clause-found : goal.returns-clause-found
returns-clause-found c = found_if c.args.text.now c.read.result c.read.ensures.exact

pub returns-clause-only : goal.returns-clause-only
returns-clause-only c = λ d is same. c.read.ensures.exact ∙ (ap crs same ∙ crs_again d is)
