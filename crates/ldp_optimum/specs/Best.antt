-- The best of the designs of a problem. (Own choice of this project.)
use Rattle.std.specs.Prelude.{ℕ, List, map, flat_map, filter_map, Bool, Option, None, Some}
use Rattle.std.specs.Prelude.{option_map, if◌then◌else◌}
use Rattle.std.specs.List.{range_with_len, enumerate_from, reduce}
use Rattle.std.specs.Option.{is_none}
use Rattle.std.specs.Ordering.{ordering_then, is_lt}
use Rattle.std.specs.declared.cmp.Ordering.{Ordering}
use Rattle.ldp_design.specs.declared.family.Family.{Family}
use Rattle.ldp_design.specs.declared.design.Design.{Design}
use Rattle.ldp_design.specs.Designs.{design_cmp}
use Rattle.ldp_problem.specs.declared.pair.Pair.{Pair}
use Rattle.ldp_problem.specs.Problem.{Problem}
use Rattle.ldp_problem.specs.Pairs.{pair_cmp}
use Rattle.ldp_problem.specs.Costs.{cost, first_undefined}

-- the designs of a family under its number: each index of each of its four axes
abbrev pub designs_of : ℕ × Family → List Design
designs_of (number, f) =
    flat_map (λ lat. flat_map (λ lon. flat_map (λ azimuth. map
    (λ scale. record { family = number; lat = lat; lon = lon; azimuth = azimuth; scale = scale })
    (range_with_len 0 f.scale.count)) (range_with_len 0 f.azimuth.count))
    (range_with_len 0 f.lon.count)) (range_with_len 0 f.lat.count)

-- all designs; families are numbered from 1
abbrev pub all_designs : List Family → List Design
all_designs families = flat_map designs_of (enumerate_from 1 families)

-- a usable design and its cost
pub record Ranked : Type 0 where
  pub design : Design
  pub cost : Pair

-- a design with its cost; None if it is not usable
abbrev pub rank : Problem → Design → Option Ranked
rank p d =
    if is_none (first_undefined p d) then Some record { design = d; cost = cost p d } else None

-- by the cost, and where that is equal by the order of designs
abbrev pub ranked_cmp : Ranked → Ranked → Ordering
ranked_cmp a b = ordering_then (pair_cmp a.cost b.cost) (design_cmp a.design b.design)

-- whether a stands before b: its cost is less, or equal with a the earlier design
abbrev pub is_better : Ranked → Ranked → Bool
is_better a b = is_lt (ranked_cmp a b)

-- of two ranked designs the better one
abbrev pub better : Ranked → Ranked → Ranked
better a b = if is_better b a then b else a

-- the first design that is usable and has the least cost, if any design is usable
unfoldable pub best : Problem → Option Ranked
best p = reduce better (filter_map (rank p) (all_designs p.families))

-- the least cost of a usable design
abbrev pub least : Problem → Option Pair
least p = option_map (λ x. x.cost) (best p)
