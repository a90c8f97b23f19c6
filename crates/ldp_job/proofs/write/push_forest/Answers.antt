use Rattle.std.proofs.Common.{arith}
use Rattle.ldp_job.proofs.Pushes.{entries_more}
use Rattle.ldp_job.proofs.write.push_forest.Goals as goal

pub loop-i-preserved : goal.loop-i-preserved
loop-i-preserved c =
    entries_more c.args.forest.now c.loop-i.i c.get.result c.args.text.now c.loop-i.text
    c.push_entry.new.text
    (omega (arith, c.loop-i-test.true, c.len-i-end.ensures)) c.get.ensures c.loop-i.invariant
    c.in_ok-push_entry.ensures
