use Rattle.ldp_spelling.proofs.Plain.{plain_decimal, plain_fixed, plain_trimmed, plain_hash}
use Rattle.ldp_spelling.proofs.laws.numbers_are_plain.Goals as goal

pub returns-clause-whole : goal.returns-clause-whole
returns-clause-whole c = plain_decimal

pub returns-clause-fixed : goal.returns-clause-fixed
returns-clause-fixed c = plain_fixed

pub returns-clause-trimmed : goal.returns-clause-trimmed
returns-clause-trimmed c = plain_trimmed

pub returns-clause-hash : goal.returns-clause-hash
returns-clause-hash c = plain_hash
