-- The object of a table has no float.
use Rattle.std.proofs.Common.{◌≡◌, ℕ, ℤ, false, List, [], ◌∷◌, map, refl}
use Rattle.serde_json.specs.View.{items_of}
use Rattle.serde_json.specs.Written.{has_float, items_have_float}
use Rattle.ldp_table.specs.declared.row.Row.{Row}
use Rattle.ldp_table.specs.Objects.{row_data, table_data}

rows_plain : (rows : List Row) → items_have_float (items_of (map row_data rows)) ≡ false
rows_plain [] = refl
rows_plain (r ∷ rs) = rows_plain rs

pub table_plain : (rows : List Row) (missing : ℕ) (worst : ℤ)
    → has_float (table_data rows missing worst) ≡ false
table_plain rows missing worst = rw (rows_plain rows) refl
