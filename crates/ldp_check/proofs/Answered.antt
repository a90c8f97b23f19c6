-- What the answers of a bounder tell.
use Rattle.std.proofs.Common.{◌≡◌, ℕ, ℤ, pos, Option, Some, None, refl}
use Rattle.std.specs.Prelude.{IfNone}
use Rattle.ldp_design.specs.declared.design.Design.{Design}
use Rattle.ldp_design.specs.declared.design_box.DesignBox.{DesignBox}
use Rattle.ldp_problem.specs.declared.pair.Pair.{Pair}
use Rattle.ldp_problem.specs.declared.bound.Bound.TheVariants as bounds
use Rattle.ldp_problem.specs.declared.cost.Cost.TheVariants as costs
use Rattle.ldp_problem.specs.Problem.{Problem}
use Rattle.ldp_problem.specs.Costs.{bound, bound_answer, bound_of, bound_cell, unusable_at, cost}
use Rattle.ldp_problem.specs.Costs.{cost_answer, cost_of, first_undefined, worst_cell}

low_by : (undefined : Option ℕ) (pair : Pair) (at over cell : ℕ) (value : ℤ)
    → bounds.Low over value cell ≡ bound_answer undefined pair at → over ≡ pair.over
low_by (Some undefined) pair at over cell value e = absurd cc
low_by None pair at over cell value e = cc

pub low_over : (p : Problem) (b : DesignBox) (over cell : ℕ) (value : ℤ)
    → bounds.Low over value cell ≡ bound_of p b → over ≡ (bound p b).over
unfolding bound_of
low_over p b over cell value e =
    low_by (unusable_at p b) (bound p b) (bound_cell p b) over cell value e

pub record IsCost (p : Problem) (d : Design) (over : ℕ) (value : ℤ) (cell : ℕ) : Type 0 where
  pub none : first_undefined p d ≡ None
  pub same_over : over ≡ (cost p d).over
  pub same_value : value ≡ pos (cost p d).value
  pub same_cell : cell ≡ worst_cell p d

cost_by : (p : Problem) (d : Design) (undefined : Option ℕ) (over cell : ℕ) (value : ℤ)
    → first_undefined p d ≡ undefined
    → costs.Is over value cell ≡ cost_answer undefined (cost p d) (worst_cell p d)
    → IsCost p d over value cell
cost_by p d (Some undefined) over cell value h e = absurd cc
cost_by p d None over cell value h e =
    record { none = h; same_over = cc; same_value = cc; same_cell = cc }

pub cost_is : (p : Problem) (d : Design) (over cell : ℕ) (value : ℤ)
    → costs.Is over value cell ≡ cost_of p d
    → IsCost p d over value cell
unfolding cost_of
cost_is p d over cell value e = cost_by p d (first_undefined p d) over cell value refl e

undefined_by : (undefined : Option ℕ) (pair : Pair) (at cell : ℕ)
    → costs.Unusable cell ≡ cost_answer undefined pair at → undefined ≡ Some cell
undefined_by (Some undefined) pair at cell e = cc
undefined_by None pair at cell e = absurd cc

pub cost_undefined : (p : Problem) (d : Design) (cell : ℕ) → costs.Unusable cell ≡ cost_of p d
    → first_undefined p d ≡ Some cell
unfolding cost_of
cost_undefined p d cell e = undefined_by (first_undefined p d) (cost p d) (worst_cell p d) cell e

-- what follows where there is no answer
pub if_none : {A : Type 0} (o : Option A) (P Q : Type 0) → (P → Q) → IfNone o P → IfNone o Q
if_none None P Q f h = f h
if_none (Some x) P Q f h = h

pub always : {A : Type 0} (o : Option A) (P : Type 0) → P → IfNone o P
always None P h = h
always (Some x) P h = tt

pub none_gives : {A : Type 0} (o : Option A) (P : Type 0) → o ≡ None → IfNone o P → P
none_gives None P e h = h
none_gives (Some x) P e h = absurd cc
