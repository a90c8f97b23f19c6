use Rattle.ldp_wkt2.proofs.Fronts.{past_if}
use Rattle.ldp_wkt2.proofs.past.past.Goals as goal

pub returns-clause-value : goal.returns-clause-value
returns-clause-value c =
    past_if c.strip_prefix.result c.args.front.now c.args.text.now c.strip_prefix.ensures.cases
