-- A whole number of units of 10^-places as a decimal text (own choice of this project).
use Rattle.std.specs.Prelude.{ℕ, zero, suc, ◌-◌, ◌/◌, ◌%◌, ◌^◌, ◌==◌, ℤ, pos, negsuc, unsigned_abs}
use Rattle.std.specs.Prelude.{List, [], ◌∷◌, ◌++◌, length, replicate, decimal, if◌then◌else◌}

-- a minus where the number is below zero
abbrev pub sign : ℤ → List ℕ
sign (pos n) = []
sign (negsuc n) = 45 ∷ []

-- n in exactly so many digits, and none for no places
abbrev pub padded : ℕ → ℕ → List ℕ
padded zero n = []
padded (suc p) n = replicate (suc p - length (decimal n)) 48 ++ decimal n

-- digits behind a point, and no point where nothing follows
abbrev pub pointed : List ℕ → List ℕ
pointed [] = []
pointed (d ∷ ds) = 46 ∷ d ∷ ds

-- a digit before what is kept behind it: a zero that nothing follows goes
abbrev pub onto_kept : ℕ → List ℕ → List ℕ
onto_kept d [] = if d == 48 then [] else d ∷ []
onto_kept d (e ∷ es) = d ∷ e ∷ es

-- digits without the zeros at their end
abbrev pub without_zeros : List ℕ → List ℕ
without_zeros [] = []
without_zeros (d ∷ ds) = onto_kept d (without_zeros ds)

-- the digits of n units of 10^-places before the point, without leading zeros
abbrev pub whole_digits : ℕ → ℕ → List ℕ
whole_digits places n = decimal (n / 10 ^ places)

-- the digits behind the point
abbrev pub further_digits : ℕ → ℕ → List ℕ
further_digits places n = padded places (n % 10 ^ places)

-- a minus where z < 0, the whole part without leading zeros, and where places > 0 a point and
-- exactly so many digits
unfoldable pub decimal_text : ℕ → ℤ → List ℕ
decimal_text places z =
    let n = unsigned_abs z in
    sign z ++ (whole_digits places n ++ pointed (further_digits places n))

-- the same without zeros at the end behind the point, and without a point that nothing follows
unfoldable pub trimmed_text : ℕ → ℤ → List ℕ
trimmed_text places z =
    let n = unsigned_abs z in
    sign z ++ (whole_digits places n ++ pointed (without_zeros (further_digits places n)))
