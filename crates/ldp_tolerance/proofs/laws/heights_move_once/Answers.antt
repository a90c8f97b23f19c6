use Rattle.ldp_tolerance.proofs.Projections.{tm-moves, lambert-moves, lambert_two-moves}
use Rattle.ldp_tolerance.proofs.Projections.{hotine-moves}
use Rattle.ldp_tolerance.proofs.laws.heights_move_once.Goals as goal

pub returns-clause-tm : goal.returns-clause-tm
returns-clause-tm c = tm-moves

pub returns-clause-lambert : goal.returns-clause-lambert
returns-clause-lambert c = lambert-moves

pub returns-clause-lambert_two : goal.returns-clause-lambert_two
returns-clause-lambert_two c = lambert_two-moves

pub returns-clause-hotine : goal.returns-clause-hotine
returns-clause-hotine c = hotine-moves
