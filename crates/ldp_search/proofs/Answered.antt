-- What a search answers, once the best design is known.
use Rattle.std.proofs.Common.{◌≡◌, ◌≤◌, ℕ, false, List, None, Some, sym, ap, subst, ◌∙◌, arith}
use Rattle.std.specs.Prelude.{option_map}
use Rattle.std.specs.Ordering.{is_lt}
use Rattle.ldp_design.specs.declared.design.Design.{Design}
use Rattle.ldp_design.specs.declared.family.Family.{Family}
use Rattle.ldp_design.specs.declared.node.Node.{Node}
use Rattle.ldp_design.specs.Designs.{IsAdmitted, design_cmp}
use Rattle.ldp_design.specs.Limits.{most_budget}
use Rattle.ldp_design.specs.Forests.{IsWellShaped}
use Rattle.ldp_problem.specs.Problem.{Problem}
use Rattle.ldp_problem.specs.Pairs.{AtMost}
use Rattle.ldp_problem.specs.Costs.{IsUsable, cost}
use Rattle.ldp_optimum.specs.Best.{best, least}
use Rattle.ldp_optimum.specs.Forest.{forest}
use Rattle.ldp_optimum.proofs.Bests.{best_least, best_first, no_best_none_usable}
use Rattle.ldp_optimum.proofs.Forests.{forest_is_shaped}
use Rattle.ldp_search.specs.declared.candidate.Candidate.{Candidate}
use Rattle.ldp_search.specs.declared.state.State.{State}
use Rattle.ldp_search.specs.Candidates.{cost_shown, ranked_of, IsCandidate}
use Rattle.ldp_search.specs.Explored.{IsDone}
use Rattle.ldp_search.specs.Search.{IsFound, HasCost, HasNoUsable}
use Rattle.ldp_search.proofs.Judged.{cost_is}

pub none_usable : (p : Problem) (families : List Family) (t : State) (d : Design) → IsDone p t
    → t.best ≡ None
    → p.families ≡ families → IsAdmitted families d → IsUsable p d → ⊥
none_usable p families t d done e same a u =
    no_best_none_usable p d (done.best ∙ ap (option_map ranked_of) e)
    (subst (λ fs. IsAdmitted fs d) (sym same) a) u

pub no_usable : (p : Problem) (budget : ℕ) (t : State) → IsDone p t → t.best ≡ None
    → t.evaluated ≤ budget
    → HasNoUsable p budget t.evaluated
no_usable p budget t done e within = record {
  none = done.best ∙ ap (option_map ranked_of) e;
  nodes = done.evaluated;
  enough = omega (arith, done.evaluated);
}

module _ (p : Problem) (t : State) (c : Candidate) (done : IsDone p t) (e : t.best ≡ Some c) where
  is : IsCandidate p c
  is = done.candidate c e

  best_is : best p ≡ Some (ranked_of c)
  best_is = done.best ∙ ap (option_map ranked_of) e

  pub least_is : least p ≡ Some (cost_shown c)
  least_is = ap (option_map (λ x. x.cost)) best_is

  pub found_is : (budget : ℕ) (written : List Node) → t.evaluated ≤ budget → written ≡ forest p
      → IsFound p budget record {
        design = c.design;
        over = c.over;
        worst = c.worst;
        cell = c.cell;
        forest = written;
        nodes = t.evaluated;
      }
  found_is budget written within all = record {
    best = best_is ∙ ap (λ k. Some record { design = c.design; cost = k })
        (cost_is p c (done.candidate c e));
    forest = all;
    nodes = done.evaluated;
    enough = omega (arith, done.evaluated);
  }

  pub cost_found : (written : List Node) → HasCost p record {
    design = c.design;
    over = c.over;
    worst = c.worst;
    cell = c.cell;
    forest = written;
    nodes = t.evaluated;
  }
  cost_found written =
      let candidate : IsCandidate p c = done.candidate c e in
      record { over = candidate.over; worst = candidate.worst; cell = candidate.cell }

  pub smallest_found : (families : List Family) → p.families ≡ families → (d : Design)
      → IsAdmitted families d → IsUsable p d → AtMost (cost p c.design) (cost p d)
  smallest_found families same d a u =
      subst (λ k. AtMost k (cost p d)) (cost_is p c (done.candidate c e))
      (best_least p (ranked_of c) d best_is (subst (λ fs. IsAdmitted fs d) (sym same) a) u)

  pub first_found : (families : List Family) → p.families ≡ families → (d : Design)
      → IsAdmitted families d → IsUsable p d → cost p d ≡ cost p c.design
      → is_lt (design_cmp d c.design) ≡ false
  first_found families same d a u tie =
      best_first p (ranked_of c) d best_is (subst (λ fs. IsAdmitted fs d) (sym same) a) u
      (tie ∙ sym (cost_is p c (done.candidate c e)))

  pub shape_found : (budget : ℕ) (written : List Node) → t.evaluated ≤ budget → budget ≤ most_budget
      → written ≡ forest p → IsWellShaped written
  shape_found budget written within few all =
      subst IsWellShaped (sym all) (record {
        shape = forest_is_shaped p done.grids;
        few = omega (arith, done.evaluated);
      })

  pub usable_found : IsUsable p c.design
  usable_found = let candidate : IsCandidate p c = done.candidate c e in candidate.usable
