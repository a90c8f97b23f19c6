use Rattle.ldp_spelling.proofs.Written.{whole_found, whole_again, trimmed_found, trimmed_again}
use Rattle.ldp_spelling.proofs.Written.{fixed_found, fixed_again}
use Rattle.ldp_spelling.proofs.Hashes.{hash_found, hash_is, hash_again}
use Rattle.ldp_spelling.proofs.laws.numbers_are_read.Goals as goal

pub returns-clause-whole_found : goal.returns-clause-whole_found
returns-clause-whole_found c = whole_found

pub returns-clause-whole_again : goal.returns-clause-whole_again
returns-clause-whole_again c = whole_again

pub returns-clause-trimmed_found : goal.returns-clause-trimmed_found
returns-clause-trimmed_found c = trimmed_found

pub returns-clause-trimmed_again : goal.returns-clause-trimmed_again
returns-clause-trimmed_again c = trimmed_again

pub returns-clause-fixed_found : goal.returns-clause-fixed_found
returns-clause-fixed_found c = fixed_found

pub returns-clause-fixed_again : goal.returns-clause-fixed_again
returns-clause-fixed_again c = fixed_again

pub returns-clause-hash_found : goal.returns-clause-hash_found
returns-clause-hash_found c = hash_found

pub returns-clause-hash_is : goal.returns-clause-hash_is
returns-clause-hash_is c = hash_is

pub returns-clause-hash_again : goal.returns-clause-hash_again
returns-clause-hash_again c = hash_again
