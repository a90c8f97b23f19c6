use Rattle.std.proofs.Common.{take, get_or, arith}
use Rattle.std.proofs.lemmas.List.{take_more}
use Rattle.ldp_series.proofs.PartRuns.{moved_push}
use Rattle.ldp_series.proofs.cut.moved_outs.Goals as goal

pub loop-out-preserved : goal.loop-out-preserved
loop-out-preserved c =
    let outs = c.args.outs.now in
    let i = c.loop-out.out-index in
    rw (take_more outs i 0 (omega arith), c.in_ok-push.ensures.items)
    (moved_push c.args.places.now (take i outs) c.loop-out.moved.items (get_or outs i 0)
    c.in-Some.at c.loop-out.invariant c.in-Some.ensures)
