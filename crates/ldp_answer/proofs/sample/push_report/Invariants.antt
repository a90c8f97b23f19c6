use Rattle.std.proofs.Common.{◌≡◌, ◌+◌, ◌++◌, take, drop}
use Rattle.ldp_spelling.specs.Pieces.{lines, text_of}
use Rattle.ldp_answer.proofs.sample.push_report.Given as goal

abbrev pub invariant-loop : goal.invariant-loop
invariant-loop l = record {
  left : l.lines ≡ drop (l.counter + 1) (lines l.certificate);
  written : l.text ≡ l.fn.text ++ text_of (take l.counter (drop 1 (lines l.certificate)));
}
