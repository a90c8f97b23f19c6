use Rattle.std.proofs.Common.{refl, arith}
use Rattle.ldp_search.proofs.Counts.{below_needed}
use Rattle.ldp_search.proofs.evaluate.evaluate.Goals as goal

pub returns-then-state-budget-clause-fault : goal.returns-then-state-budget-clause-fault
returns-then-state-budget-clause-fault g c =
    (λ begun pending x. record {
      evaluated = refl;
      short = let below = below_needed _ begun c.args.b.now pending c.args.state.now x in omega
          (arith, below);
    })
