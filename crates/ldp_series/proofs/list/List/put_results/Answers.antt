use Rattle.std.proofs.Common.{◌≡◌, length, arith, ap}
use Rattle.ldp_series.proofs.Runs.{put_more, put_all}
use Rattle.ldp_series.proofs.list.List.put_results.Goals as goal

pub loop-i-preserved : goal.loop-i-preserved
loop-i-preserved g c =
    let count : length c.outs-place-items.result.now ≡ length c.args.self.now.outs =
    ap length c.outs-place-items.ensures.outs in
    put_more g.N.Num.meaning c.args.bench.now.results c.args.self.now.outs c.loop-i.results
    c.loop-i.i c.at.result
    (omega arith) (omega arith) (rw c.outs-place-items.ensures.outs at c.at.ensures)
    c.loop-i.invariant

pub returns : goal.returns
returns g c =
    let count : length c.outs-place-items.result.now ≡ length c.args.self.now.outs =
    ap length c.outs-place-items.ensures.outs in
    put_all g.N.Num.meaning c.args.bench.now.results c.args.self.now.outs c.loop-i.results
    c.loop-i.i
    (omega arith) (omega arith) c.loop-i.invariant
