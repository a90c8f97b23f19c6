use Rattle.ldp_heights.proofs.Wholes.{text_read}
use Rattle.ldp_heights.proofs.laws.whole_texts_are_read.Goals as goal

pub returns : goal.returns
returns c = text_read c.numbers_are_spelled.ensures.spelled
