use Rattle.ldp_decimal.proofs.Spelled.{decimal_is_read, trimmed_is_read}
use Rattle.ldp_decimal.proofs.laws.written_is_read.Goals as goal

pub returns-clause-decimal : goal.returns-clause-decimal
returns-clause-decimal c = decimal_is_read

pub returns-clause-trimmed : goal.returns-clause-trimmed
returns-clause-trimmed c = trimmed_is_read
