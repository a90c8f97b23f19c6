use Rattle.std.proofs.Common.{sym, ◌∙◌}
use Rattle.ldp_spelling.proofs.Cuts.{no_words, words_gone}
use Rattle.ldp_spelling.proofs.words.Words.is_empty.Goals as goal

pub returns : goal.returns
returns c = (
  λ t. sym c.self.view_is ∙ words_gone c.self.inside.more c.self.inside.rest.now t,
  λ e. no_words c.self.inside.more c.self.inside.rest.now (c.self.view_is ∙ e),
)
