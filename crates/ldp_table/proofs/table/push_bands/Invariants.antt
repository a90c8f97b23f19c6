use Rattle.std.proofs.Common.{◌≡◌, ◌++◌, take}
use Rattle.ldp_table.specs.Bands.{edges}
use Rattle.ldp_spelling.specs.Texts.{lines_text}
use Rattle.ldp_table.specs.Texts.{bands_words}
use Rattle.ldp_table.proofs.table.push_bands.Given as goal

abbrev pub invariant-loop-band : goal.invariant-loop-band
invariant-loop-band l =
    l.text ≡ l.fn.text ++ lines_text (take l.band (bands_words edges l.counts))
