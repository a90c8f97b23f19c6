-- The cost of a usable design, as a bounder answers it.
use Rattle.std.proofs.Common.{◌≡◌, ℕ, ℤ, pos, refl, ap, ◌∙◌}
use Rattle.ldp_design.specs.declared.design.Design.{Design}
use Rattle.ldp_problem.specs.declared.cost.Cost.{Cost}
use Rattle.ldp_problem.specs.declared.cost.Cost.TheVariants as costs
use Rattle.ldp_problem.specs.Problem.{Problem}
use Rattle.ldp_problem.specs.Costs.{IsUsable, cost, cost_of, worst_cell}
use Rattle.ldp_problem.proofs.Facts.{usable_has_none}

cost_is : (p : Problem) (d : Design) → IsUsable p d
    → cost_of p d ≡ costs.Is (cost p d).over (pos (cost p d).value) (worst_cell p d)
unfolding cost_of
cost_is p d usable = rw (usable_has_none p d usable) refl

value_in : Cost → ℤ
value_in (costs.Is over value cell) = value
value_in (costs.Unusable cell) = pos 0

pub value_is : (p : Problem) (d : Design) (over : ℕ) (value : ℤ) (cell : ℕ) → IsUsable p d
    → costs.Is over value cell ≡ cost_of p d → value ≡ pos (cost p d).value
unfolding value_in
value_is p d over value cell usable e = ap value_in (e ∙ cost_is p d usable)

pub never_unusable : (p : Problem) (d : Design) (cell : ℕ) → IsUsable p d
    → costs.Unusable cell ≡ cost_of p d → ⊥
never_unusable p d cell usable e =
    let other : costs.Unusable cell
    ≡ costs.Is (cost p d).over (pos (cost p d).value) (worst_cell p d) =
    e ∙ cost_is p d usable in
    cc
