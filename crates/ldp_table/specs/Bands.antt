-- How many cells have a distortion of at most so many parts per million. (Own choice of this
-- project.)
use Rattle.std.specs.Prelude.{ℕ, ◌*◌, ◌^◌, ◌==◌, nat_le, ℤ, unsigned_abs, List, [], ◌∷◌, map}
use Rattle.std.specs.Prelude.{count_by}
use Rattle.std.specs.List.{position_or_len}
use Rattle.ldp_table.specs.declared.row.Row.{Row}

-- the upper ends of the bands, in parts per million; the next band begins above the end of the one
-- before
abbrev pub edges : List ℕ
edges = 5 ∷ 10 ∷ 20 ∷ 50 ∷ 100 ∷ []

-- the number of the first band whose end the absolute distortion, in units of 10^-15, does not
-- exceed; where there is none, the number of bands
abbrev pub band_of : ℤ → ℕ
band_of z = position_or_len (λ edge. nat_le (unsigned_abs z) (edge * 10 ^ 9)) edges

-- how many cells lie in the band with this number, from 0
abbrev pub count_in : List Row → ℕ → ℕ
count_in rows band = count_by (λ row. band_of row.distortion == band) rows

-- how many rows lie in each band, and at last how many in none
abbrev pub counts_of : List Row → List ℕ
counts_of rows = map (count_in rows) (0 ∷ 1 ∷ 2 ∷ 3 ∷ 4 ∷ 5 ∷ [])
