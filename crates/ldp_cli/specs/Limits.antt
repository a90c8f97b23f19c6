-- What the words after the files say of a search. Own choice of this project.
use Rattle.std.specs.Prelude.{ℕ, ◌≤◌, ℤ, pos, ◌&&◌, List, [], ◌∷◌, codes, bytes_eq}
use Rattle.std.specs.Prelude.{Option, None, Some, IfSome, option_map, option_and_then}
use Rattle.std.specs.Prelude.{if◌then◌else◌}
use Rattle.std.specs.Result.{result_ok}
use Rattle.ldp_spelling.specs.Numbers.{whole_in}
use Rattle.ldp_design.specs.Limits.{most_budget, most_tolerance, IsTolerance}
use Rattle.ldp_quantity.specs.Between.{number_from_to}
use Rattle.ldp_cli.specs.declared.limits.Limits.{Limits}

-- the budget, in nodes, if no word gives one
abbrev pub usual_budget : ℕ
usual_budget = 200_000

-- a budget of one node at least, in digits alone and without a leading zero
abbrev pub budget_in : List ℕ → Option ℕ
budget_in word = whole_in 1 most_budget word

-- a tolerance from 0 to a million parts per million, in units of 10^-9 ppm, rounded
abbrev pub share_in : List ℕ → Option ℤ
share_in word = result_ok (number_from_to 9 (pos 0) (pos most_tolerance) word)

-- the limits of a search with this budget and no share
abbrev pub budget_alone : List ℕ → Option Limits
budget_alone word =
    option_map (λ budget. record { budget = budget; tolerance = None }) (budget_in word)

-- the limits of a search with this share and the usual budget
abbrev pub share_alone : List ℕ → Option Limits
share_alone word =
    option_map (λ share. record { budget = usual_budget; tolerance = Some share }) (share_in word)

-- the limits of a search with both; None if one of the words is no such number
abbrev pub budget_and_share : List ℕ → List ℕ → Option Limits
budget_and_share nodes ppm =
    option_and_then (λ budget.
    option_map (λ share. record { budget = budget; tolerance = Some share }) (share_in ppm))
    (budget_in nodes)

-- the words after the files: none, `--budget N`, `--share PPM`, or both in this order
abbrev pub limits_in : List (List ℕ) → Option Limits
limits_in [] = Some record { budget = usual_budget; tolerance = None }
limits_in (name ∷ value ∷ []) =
    if bytes_eq name (codes "--budget") then budget_alone value
    else if bytes_eq name (codes "--share") then share_alone value
    else None
limits_in (first ∷ nodes ∷ second ∷ ppm ∷ []) =
    if bytes_eq first (codes "--budget") && bytes_eq second (codes "--share")
    then budget_and_share nodes ppm
    else None
limits_in _ = None

-- the ranges of both numbers
pub record AreLimits (limits : Limits) : Type 0 where
  pub some : 1 ≤ limits.budget
  pub few : limits.budget ≤ most_budget
  pub tolerance : IfSome limits.tolerance IsTolerance
