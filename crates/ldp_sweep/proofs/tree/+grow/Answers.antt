use Rattle.std.proofs.Common.{◌≡◌, List, length, sym, subst, arith}
use Rattle.ldp_sweep.specs.declared.stretch.Stretch.{Stretch}
use Rattle.ldp_sweep.specs.Grown.{IsGrownFrom}
use Rattle.ldp_sweep.proofs.Nodes.{grown_none, grown_both, grown_node}
use Rattle.ldp_sweep.proofs.tree.+grow.Goals as goal

pub returns-then-to-from-le-MOST_CELLS : goal.returns-then-to-from-le-MOST_CELLS
returns-then-to-from-le-MOST_CELLS t c =
    let old : List Stretch = c.args.nodes.now.items in
    let node : Stretch = record {
      from = c.args.from;
      to = c.args.to;
      skip = c.len-skip.result;
    } in
    let skip : c.len-skip.result ≡ length old =
    omega (arith, c.len-skip.ensures, c.args.nodes.now.ok.0) in
    subst (λ (new : List Stretch). IsGrownFrom old new c.args.from c.args.to)
    (sym c.in_ok-push.ensures.items)
    (grown_node old old node c.args.to (grown_none old c.args.to) skip (omega (arith, c.requires))
    (λ h. absurd (omega arith)))

pub loop-end-preserved : goal.loop-end-preserved
loop-end-preserved t c =
    record {
      grown =
          grown_both c.args.nodes.now.items c.loop-end.nodes.items c.grow.new.nodes.items
          c.max-begin.result c.loop-end.end c.args.to c.loop-end.invariant.high
          c.loop-end.invariant.grown c.in_ok-grow.ensures;
      low = omega (arith, c.max-begin.ensures);
      high = omega (
        arith,
        c.max-begin.ensures,
        c.saturating_sub.ensures,
        c.loop-end.invariant.high,
        c.requires,
      );
    }

pub returns : goal.returns
returns t c =
    let old : List Stretch = c.args.nodes.now.items in
    let node : Stretch = record {
      from = c.args.from;
      to = c.args.to;
      skip = c.len-skip.result;
    } in
    let skip : c.len-skip.result ≡ length old =
    omega (arith, c.len-skip.ensures, c.args.nodes.now.ok.0) in
    subst (λ (new : List Stretch). IsGrownFrom old new c.args.from c.args.to)
    (sym c.in_ok-push-2.ensures.items)
    (grown_node old c.loop-end.nodes.items node c.loop-end.end c.loop-end.invariant.grown skip
    (omega (arith, c.requires))
    (λ h. omega (arith, c.loop-end.invariant.low, c.loop-end-test.false)))
