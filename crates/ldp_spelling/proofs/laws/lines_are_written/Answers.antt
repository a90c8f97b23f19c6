use Rattle.ldp_spelling.proofs.Texts.{text_is, line_more}
use Rattle.ldp_spelling.proofs.laws.lines_are_written.Goals as goal

pub returns-clause-text : goal.returns-clause-text
returns-clause-text c = text_is

pub returns-clause-more : goal.returns-clause-more
returns-clause-more c = line_more
