-- What a search answers.
use Rattle.std.specs.Prelude.{◌≡◌, ◌≤◌, ◌<◌, ◌*◌, ℕ, pos, None, Some, Result, Ok, Err}
use Rattle.ldp_problem.specs.Problem.{Problem}
use Rattle.ldp_problem.specs.Costs.{cost, worst_cell}
use Rattle.ldp_optimum.specs.Best.{best}
use Rattle.ldp_optimum.specs.Forest.{forest, needed}
use Rattle.ldp_search.specs.declared.found.Found.{Found}
use Rattle.ldp_search.specs.declared.fault.SearchFault.{SearchFault}
use Rattle.ldp_search.specs.declared.fault.SearchFault.TheVariants.{Budget, NoUsable, Memory}

-- the best design and the canonical forest, where the budget suffices for its nodes
pub record IsFound (p : Problem) (budget : ℕ) (f : Found) : Type 0 where
  pub best : best p ≡ Some (record { design = f.design; cost = cost p f.design })
  pub forest : f.forest ≡ forest p
  pub nodes : f.nodes ≡ needed p
  pub enough : needed p ≤ budget

-- the design has this cost, and its worst distortion first at this cell
pub record HasCost (p : Problem) (f : Found) : Type 0 where
  pub over : f.over ≡ (cost p f.design).over
  pub worst : f.worst ≡ pos (cost p f.design).value
  pub cell : f.cell ≡ worst_cell p f.design

-- the budget does not suffice for the nodes of the canonical forest
pub record IsShort (p : Problem) (budget count : ℕ) : Type 0 where
  pub evaluated : count ≡ budget
  pub short : budget < needed p

-- the budget suffices, and there is no best design
pub record HasNoUsable (p : Problem) (budget count : ℕ) : Type 0 where
  pub none : best p ≡ None
  pub nodes : count ≡ needed p
  pub enough : needed p ≤ budget

-- nothing is said of want of memory
abbrev pub IsFault : Problem → ℕ → SearchFault → Type 0
IsFault p budget (Budget evaluated) = IsShort p budget evaluated
IsFault p budget (NoUsable nodes) = HasNoUsable p budget nodes
IsFault p budget Memory = Unit {0}

-- how often a search asks: at most twice for each node of a forest that it made or that shows that
-- no design is usable, and else at most twice the budget
abbrev pub most_asked : ℕ → Result Found SearchFault → ℕ
most_asked budget (Ok f) = 2 * f.nodes
most_asked budget (Err (Budget evaluated)) = 2 * budget
most_asked budget (Err (NoUsable nodes)) = 2 * nodes
most_asked budget (Err Memory) = 2 * budget
