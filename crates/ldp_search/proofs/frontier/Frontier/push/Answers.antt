use Rattle.std.proofs.lemmas.List.Sorted.{IsPermutation-map}
use Rattle.ldp_search.proofs.frontier.Frontier.push.Goals as goal

pub returns : goal.returns
returns c = record {
  ok = rw (← c.self.view_is) (IsPermutation-map (λ r. r.0) _ _ c.in_ok-push.ensures.permutation);
}
