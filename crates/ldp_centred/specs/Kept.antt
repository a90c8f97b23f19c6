-- What the types of slopes keep, and the parts that their operations are made of.
use Rattle.std.specs.Prelude.{◌≡◌, ◌≤ℤ◌, ℤ, pos, List, [], ◌∷◌, Option, Some, option_map}
use Rattle.std.specs.Prelude.{option_and_then}
use Rattle.ldp_num.specs.Number.{IsNumber}
use Rattle.ldp_num.specs.Slopes.{Known}
use Rattle.ldp_range.specs.Range.{LiesIn}

-- an error is a number of at least 0
pub record IsError (error : ℤ) : Type 0 where
  pub number : IsNumber error
  pub natural : pos 0 ≤ℤ error

-- what is known has a number as its centre, and an error
pub record IsKnown (centre error : ℤ) : Type 0 where
  pub centre_number : IsNumber centre
  pub error_natural : IsError error

-- where more than a range is known, the centre lies in the range
abbrev pub IsCentred : ℤ × ℤ → Option Known → Type 0
IsCentred range known = (k : Known) → known ≡ Some k → LiesIn k.centre range

-- the first of a list of pairs; a pair of zeros, if it is empty
abbrev pub first : List (ℤ × ℤ) → ℤ × ℤ
first [] = (pos 0, pos 0)
first (s ∷ slopes) = s

-- all but the first of a list
abbrev pub rest : List (ℤ × ℤ) → List (ℤ × ℤ)
rest [] = []
rest (s ∷ slopes) = slopes

-- a pair before a list, where both are defined
abbrev pub before : Option (ℤ × ℤ) → Option (List (ℤ × ℤ)) → Option (List (ℤ × ℤ))
before s slopes = option_and_then (λ r. option_map (λ rs. r ∷ rs) slopes) s

-- the list of four pairs, where all are defined
abbrev pub four : Option (ℤ × ℤ) → Option (ℤ × ℤ) → Option (ℤ × ℤ) → Option (ℤ × ℤ)
    → Option (List (ℤ × ℤ))
four latitude longitude azimuth scale =
    before latitude (before longitude (before azimuth (before scale (Some []))))
