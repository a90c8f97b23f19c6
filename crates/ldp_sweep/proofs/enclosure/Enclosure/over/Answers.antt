use Rattle.std.proofs.Common.{arith}
use Rattle.ldp_sweep.proofs.Tallies.{none_above, all_above}
use Rattle.ldp_sweep.proofs.enclosure.Enclosure.over.Goals as goal

pub returns-then-self-limit : goal.returns-then-self-limit
returns-then-self-limit c =
    λ value from to within ordered.
    rw c.in-Some.is
    (none_above value c.in-Some.limit from to c.args.self within (omega arith)
    (omega (arith, c.from-limit.ensures)))

pub returns-then-self-limit-2 : goal.returns-then-self-limit-2
returns-then-self-limit-2 c =
    λ value from to within ordered.
    rw c.in-Some.is
    (all_above value c.in-Some.limit from to c.args.cells c.args.self within ordered
    (omega (arith, c.from-limit.ensures)))
