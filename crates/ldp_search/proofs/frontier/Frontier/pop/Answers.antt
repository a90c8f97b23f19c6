use Rattle.std.proofs.lemmas.List.Sorted.{IsPermutation-map}
use Rattle.ldp_search.proofs.frontier.Frontier.pop.Goals as goal
use Rattle.ldp_search.proofs.Bounds.{least_of_heap}

pub returns-clause-some : goal.returns-clause-some
returns-clause-some c =
    rw (← c.self.view_is) (IsPermutation-map (λ r. r.0) _ _ c.in_ok-b.ensures.permutation)

pub returns-clause-least : goal.returns-clause-least
returns-clause-least c =
    least_of_heap c.in_ok-b.field-0 _ (c.in_ok-b.ensures.below_top c.self.invariant)
