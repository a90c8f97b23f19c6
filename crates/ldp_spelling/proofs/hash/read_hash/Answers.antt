use Rattle.std.proofs.Common.{◌∙◌}
use Rattle.ldp_spelling.proofs.Hashes.{hash_if, hash_again}
use Rattle.ldp_spelling.proofs.hash.read_hash.Goals as goal

pub returns-clause-found : goal.returns-clause-found
returns-clause-found c = hash_if c.args.text.now c.hash.result c.hash.ensures.exact

pub returns-clause-only : goal.returns-clause-only
returns-clause-only c = λ h is e. c.hash.ensures.exact ∙ hash_again c.args.text.now h is e
