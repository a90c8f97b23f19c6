-- How far a search has come: each usable design is accounted for, and so is each node of the
-- canonical forest. (Own choice of this project.)
use Rattle.std.specs.Prelude.{◌≡◌, ◌+◌, ◌<◌, ℕ, false, Option, None, Some, option_map}
use Rattle.std.specs.Prelude.{List, [], ◌∷◌, length, All, Any, sum_by}
use Rattle.ldp_design.specs.declared.design.Design.{Design}
use Rattle.ldp_design.specs.declared.design_box.DesignBox.{DesignBox}
use Rattle.ldp_design.specs.Families.{AreGrids}
use Rattle.ldp_design.specs.Designs.{IsAdmitted}
use Rattle.ldp_design.specs.Boxes.{LiesIn, IsIn, IsSingle}
use Rattle.ldp_design.specs.Laws.{IsInSome, AllLieIn}
use Rattle.ldp_design.specs.Splits.{split_of}
use Rattle.ldp_design.specs.Forests.{node_count}
use Rattle.ldp_problem.specs.Problem.{Problem, IsSound}
use Rattle.ldp_problem.specs.Costs.{IsUsable, cost, bound}
use Rattle.ldp_optimum.specs.Best.{is_better, best, least}
use Rattle.ldp_optimum.specs.Forest.{tree_of, first_trees, needed}
use Rattle.ldp_search.specs.declared.candidate.Candidate.{Candidate}
use Rattle.ldp_search.specs.declared.bounded_box.BoundedBox.{BoundedBox}
use Rattle.ldp_search.specs.declared.state.State.{State}
use Rattle.ldp_search.specs.declared.fault.SearchFault.{SearchFault}
use Rattle.ldp_search.specs.declared.fault.SearchFault.TheVariants.{Budget, NoUsable, Memory}
use Rattle.ldp_search.specs.Candidates.{IsCandidate, ranked_of}
use Rattle.ldp_search.specs.Search.{IsShort}

-- the number of nodes that a box has in the canonical forest
abbrev pub nodes_of : Problem → DesignBox → ℕ
nodes_of p b = node_count (tree_of p (least p) b)

-- that of some boxes
abbrev pub nodes_of_all : Problem → List DesignBox → ℕ
nodes_of_all p boxes = sum_by (nodes_of p) boxes

-- that of the boxes that may be split
abbrev pub nodes_on : Problem → List BoundedBox → ℕ
nodes_on p frontier = sum_by (λ o. nodes_of p o.region) frontier

-- a box of several designs with its bound
pub record IsSplittable (p : Problem) (o : BoundedBox) : Type 0 where
  pub lies : LiesIn p.families o.region
  pub several : ¬ IsSingle o.region
  pub low : o.low ≡ bound p o.region

-- a design of such a box
abbrev pub Holds : Design → BoundedBox → Type 0
Holds d o = IsIn d o.region

-- no better than the best so far
abbrev pub IsBeaten : Problem → Option Candidate → Design → Type 0
IsBeaten p None d = ⊥
IsBeaten p (Some c) d = is_better (record { design = d; cost = cost p d }) (ranked_of c) ≡ false

-- a design of a family that is to come, of a box that is to be evaluated, of a box that may be
-- split, or one that is no better than the best so far
pub data IsAccounted (p : Problem) (begun : ℕ) (pending : List DesignBox) (s : State)
    (d : Design) : Type 0 where
  later : begun < d.family → IsAccounted p begun pending s d
  waiting : IsInSome d pending → IsAccounted p begun pending s d
  held : Any (Holds d) s.frontier → IsAccounted p begun pending s d
  beaten : IsBeaten p s.best d → IsAccounted p begun pending s d

-- So many families are begun, and these boxes are to be evaluated next. Of the nodes of the
-- families that are begun, those of boxes to come are not yet evaluated, and of each box that may
-- be split one is.
pub record IsExplored (p : Problem) (begun : ℕ) (pending : List DesignBox)
    (s : State) : Type 0 where
  pub sound : IsSound p
  pub grids : AreGrids p.families
  pub lies : AllLieIn p.families pending
  pub frontier : All (IsSplittable p) s.frontier
  pub best : (c : Candidate) → s.best ≡ Some c → IsCandidate p c
  pub accounted : (d : Design) → IsAdmitted p.families d → IsUsable p d
      → IsAccounted p begun pending s d
  pub count : s.evaluated + nodes_on p s.frontier + nodes_of_all p pending
      ≡ node_count (first_trees p begun) + length s.frontier

-- all families are begun, and no box is to be evaluated next
abbrev pub IsWaiting : Problem → State → Type 0
IsWaiting p s = IsExplored p (length p.families) [] s

-- the first of the boxes to be evaluated was evaluated
abbrev pub Advances : Problem → DesignBox → State → State → Type 0
Advances p b old new = (begun : ℕ) (pending : List DesignBox)
    → IsExplored p begun (b ∷ pending) old → IsExplored p begun pending new

-- a box is to be split, and then its parts are to be evaluated
pub record IsReady (p : Problem) (b : DesignBox) (s : State) : Type 0 where
  pub lies : LiesIn p.families b
  pub several : ¬ IsSingle b
  pub parts : (low high : DesignBox) → split_of p.families b ≡ Some (low, high)
      → IsExplored p (length p.families) (low ∷ high ∷ []) s

-- the best so far is the best of all, and each node of the canonical forest was evaluated
pub record IsDone (p : Problem) (s : State) : Type 0 where
  pub grids : AreGrids p.families
  pub best : best p ≡ option_map ranked_of s.best
  pub candidate : (c : Candidate) → s.best ≡ Some c → IsCandidate p c
  pub evaluated : s.evaluated ≡ needed p

-- why the evaluation of boxes stops early; nothing is said of want of memory
abbrev pub IsStop : Problem → ℕ → SearchFault → Type 0
IsStop p budget (Budget evaluated) = IsShort p budget evaluated
IsStop p budget (NoUsable nodes) = ⊥
IsStop p budget Memory = Unit {0}
