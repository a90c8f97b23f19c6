use Rattle.std.proofs.Common.{◌∙◌}
use Rattle.ldp_spelling.proofs.Written.{whole_if, whole_again}
use Rattle.ldp_spelling.proofs.whole.read_whole.Goals as goal

pub returns-clause-found : goal.returns-clause-found
returns-clause-found c =
    whole_if c.args.low c.args.high c.args.text.now c.whole.result c.whole.ensures.exact

pub returns-clause-only : goal.returns-clause-only
returns-clause-only c = λ n h. c.whole.ensures.exact
    ∙ whole_again c.args.low c.args.high c.args.text.now n c.requires h
