use Rattle.std.proofs.Common.{◌≡◌, ◌++◌, map, take}
use Rattle.ldp_job.specs.Texts.{entry_words}
use Rattle.ldp_spelling.specs.Texts.{lines_text}
use Rattle.ldp_job.proofs.write.push_forest.Given as goal

abbrev pub invariant-loop-i : goal.invariant-loop-i
invariant-loop-i l = l.text ≡ l.fn.text ++ lines_text (map entry_words (take l.i l.forest))
