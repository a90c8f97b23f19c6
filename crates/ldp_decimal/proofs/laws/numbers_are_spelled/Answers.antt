use Rattle.ldp_decimal.proofs.Spellings.{parts_are_told, parts_are_spelled}
use Rattle.ldp_decimal.proofs.laws.numbers_are_spelled.Goals as goal

pub returns-clause-told : goal.returns-clause-told
returns-clause-told c = parts_are_told

pub returns-clause-spelled : goal.returns-clause-spelled
returns-clause-spelled c = parts_are_spelled
