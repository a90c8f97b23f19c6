use Rattle.ldp_range.proofs.Inclusion.{numbers-lie-in}
use Rattle.ldp_range.proofs.laws.operations.Goals as goal

pub returns : goal.returns
returns c = numbers-lie-in
