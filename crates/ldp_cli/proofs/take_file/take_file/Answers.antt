use Rattle.std.proofs.Common.{rules}
use Rattle.ldp_cli.proofs.Taken.{fed_taken}
use Rattle.ldp_cli.proofs.take_file.take_file.Goals as goal

pub loop-taken-preserved : goal.loop-taken-preserved
loop-taken-preserved g c = record {
  taken = fed_taken _ _ _ _ _ _ _ _ _ c.loop-taken.invariant.taken c.in-Took.ensures.takes
      (search rules) c.in_ok-feed-in-Took.ensures;
  short = search rules;
  begun = search rules;
  files = search rules;
  serves = search rules;
  later = search rules;
}
