-- The best of the single designs that a search has evaluated.
use Rattle.std.specs.Prelude.{◌≡◌, pos, unsigned_abs, Option, None, Some, option_map, if◌then◌else◌}
use Rattle.ldp_design.specs.Designs.{IsAdmitted}
use Rattle.ldp_problem.specs.declared.pair.Pair.{Pair}
use Rattle.ldp_problem.specs.Problem.{Problem}
use Rattle.ldp_problem.specs.Costs.{IsUsable, cost, worst_cell}
use Rattle.ldp_optimum.specs.Best.{Ranked, is_better}
use Rattle.ldp_search.specs.declared.candidate.Candidate.{Candidate}

-- the cost that a candidate has
abbrev pub cost_shown : Candidate → Pair
cost_shown c = record { over = c.over; value = unsigned_abs c.worst }

-- that of the candidate, if there is one
abbrev pub cost_held : Option Candidate → Option Pair
cost_held best = option_map cost_shown best

-- as a ranked design
abbrev pub ranked_of : Candidate → Ranked
ranked_of c = record { design = c.design; cost = cost_shown c }

-- the better of two; of equal ones the first
abbrev pub better_of : Option Candidate → Candidate → Candidate
better_of None c = c
better_of (Some best) c = if is_better (ranked_of c) (ranked_of best) then c else best

-- an admissible usable design with its cost and the first cell of its worst distortion
pub record IsCandidate (p : Problem) (c : Candidate) : Type 0 where
  pub admitted : IsAdmitted p.families c.design
  pub usable : IsUsable p c.design
  pub over : c.over ≡ (cost p c.design).over
  pub worst : c.worst ≡ pos (cost p c.design).value
  pub cell : c.cell ≡ worst_cell p c.design
