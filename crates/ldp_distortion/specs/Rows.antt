-- A flat table: so many numbers a row, one row after another, and for each row whether it is
-- defined.
use Rattle.std.specs.Prelude.{◌≡◌, ◌*◌, ◌≤◌, ℕ, Bool, ℤ, List, [], ◌∷◌, length, take, drop, All}
use Rattle.std.specs.Prelude.{Option, Some, None, if◌then◌else◌}
use Rattle.std.specs.Option.{ForSome}
use Rattle.ldp_num.specs.Number.{IsNumber}
use Rattle.ldp_num.specs.Steps.{most_results}

-- the width of the rows, and the rows, none where one is undefined
pub record RowTable : Type 0 where
  pub width : ℕ
  pub rows : List (Option (List ℤ))

-- the rows of a flat table of this width: for each flag the next numbers, or None if it is false
abbrev pub rows : ℕ → List Bool → List ℤ → List (Option (List ℤ))
rows width [] numbers = []
rows width (is_defined ∷ defined) numbers =
    (if is_defined then Some (take width numbers) else None)
    ∷ rows width defined (drop width numbers)

-- a flat table of at most 200,000 rows, whose numbers fill all of them, also those that are
-- undefined
pub record IsTable (width : ℕ) (defined : List Bool) (numbers : List ℤ) : Type 0 where
  pub narrow : width ≤ most_results
  pub few : length defined ≤ 200_000
  pub full : length numbers ≡ width * length defined
  pub in_range : All IsNumber numbers

-- a row of so many numbers
pub record IsRow (width : ℕ) (row : List ℤ) : Type 0 where
  pub count : length row ≡ width
  pub in_range : All IsNumber row

-- each row that is defined has that width
abbrev pub AreRows : ℕ → List (Option (List ℤ)) → Type 0
AreRows width found = All (λ row. ForSome row (IsRow width)) found
