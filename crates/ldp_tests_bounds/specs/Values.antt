-- Values in a table.
use Rattle.std.specs.Prelude.{ℕ, List, get_or, Option, None}

-- the value at a cell, where it has one
abbrev pub value_in : List (Option ℕ) → ℕ → Option ℕ
value_in values cell = get_or values cell None
