use Rattle.std.proofs.Common.{[]}
use Rattle.ldp_heights.proofs.read.read_heights.Goals as goal

pub returns : goal.returns
returns c = record {
  exact = c.finish.ensures.read c.args.text.now
      (c.in_ok-feed.ensures.holds [] c.new-reader.ensures.holds);
}
