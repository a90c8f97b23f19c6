use Rattle.std.proofs.Common.{subst, sym}
use Rattle.ldp_problem.specs.Costs.{IsUsable}
use Rattle.ldp_answer.proofs.design.found_by.Goals as goal

pub worst_of-worst-requires-clause-usable : goal.worst_of-worst-requires-clause-usable
worst_of-worst-requires-clause-usable c =
    subst (λ q. IsUsable q c.in_ok-found.found.design) (sym c.search.ensures.same)
    c.in_ok-found.ensures.usable
