use Rattle.ldp_spelling.proofs.Pieces.{words_again, line_is_words, words_line, lines_again}
use Rattle.ldp_spelling.proofs.Pieces.{text_is_lines}
use Rattle.ldp_spelling.proofs.laws.pieces_are_found.Goals as goal

pub returns-clause-words : goal.returns-clause-words
returns-clause-words c = words_again

pub returns-clause-line : goal.returns-clause-line
returns-clause-line c = line_is_words

pub returns-clause-plain : goal.returns-clause-plain
returns-clause-plain c = words_line

pub returns-clause-lines : goal.returns-clause-lines
returns-clause-lines c = lines_again

pub returns-clause-text : goal.returns-clause-text
returns-clause-text c = text_is_lines
