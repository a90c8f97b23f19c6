-- The worst of a design over cells: the largest absolute distortion. Own choice of this project.
use Rattle.std.specs.Prelude.{ℕ, ◌<◌, ℤ, pos, nat_abs, List, All, Option, Some}
use Rattle.std.specs.Prelude.{None, IsSome, position, filter_map, option_map}
use Rattle.std.specs.Option.{is_none}
use Rattle.ldp_num.specs.Number.{IsNumber}
use Rattle.ldp_problem.specs.Costs.{largest, first_largest}
use Rattle.ldp_distortion.specs.declared.worst.Worst.{Worst}
use Rattle.ldp_distortion.specs.declared.worst.Worst.TheVariants.{Is, Unusable}

-- a design is usable over cells where its distortion is defined at each
abbrev pub IsUsable : List (Option ℤ) → Type 0
IsUsable distortions = All (λ distortion. IsSome distortion) distortions

-- the absolute values of those distortions that are defined
abbrev pub absolute_values : List (Option ℤ) → List ℕ
absolute_values distortions = filter_map (option_map nat_abs) distortions

-- the first undefined cell, if there is one, else the largest of the absolute values and the first
-- cell that has it
abbrev pub worst_at : Option ℕ → List ℕ → Worst
worst_at (Some cell) values = Unusable cell
worst_at None values =
    Is (pos (largest values)) (first_largest values)

-- the worst of the distortions at the cells in order
unfoldable pub worst_of : List (Option ℤ) → Worst
worst_of distortions = worst_at (position is_none distortions) (absolute_values distortions)

-- it is a value, and no cell where the design is undefined
abbrev pub IsValue : Worst → Type 0
IsValue (Is value cell) = Unit {0}
IsValue (Unusable cell) = ⊥

-- its value is a number, where it has one
abbrev pub HasNumber : Worst → Type 0
HasNumber (Is value cell) = IsNumber value
HasNumber (Unusable cell) = Unit {0}

-- its cell is one of so many
abbrev pub IsWithin : ℕ → Worst → Type 0
IsWithin count (Is value cell) = cell < count
IsWithin count (Unusable cell) = cell < count
