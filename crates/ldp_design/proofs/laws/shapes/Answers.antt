use Rattle.ldp_design.proofs.Shapes.{shapes_are_forests}
use Rattle.ldp_design.proofs.laws.shapes.Goals as goal

pub returns : goal.returns
returns c = shapes_are_forests
