-- A design input as an item of slopes, and the least absolute value of an item over a box of design
-- inputs. A box has a range for each design input. (Centred form in mean value form: Moore; with
-- slopes: Krawczyk and Neumaier.)
use Rattle.std.specs.Prelude.{ℕ, ℤ, pos, neg_ℤ, ◌+ℤ◌, ◌-ℤ◌, List, [], ◌∷◌, set, Option, None, Some}
use Rattle.std.specs.Prelude.{option_and_then}
use Rattle.std.specs.Int.{int_min, int_max}
use Rattle.ldp_num.specs.Number.{one}
use Rattle.ldp_num.specs.Plain.{floor_div}
use Rattle.ldp_num.specs.Ranges.{pair_add, pair_mul}
use Rattle.ldp_num.specs.Slopes.{Known, Item, item, of_pair, outward, flat}

-- the middle of an input's range, rounded down
abbrev pub middle : ℤ × ℤ → ℤ
middle input = floor_div (input.0 +ℤ input.1) 2

-- how far a number is from the middle of an input's range
abbrev pub offset : ℤ → ℤ × ℤ → ℤ
offset x input = x -ℤ middle input

-- how far each number of a point is from the middle of its input's range
abbrev pub offsets : List ℤ → List (ℤ × ℤ) → List ℤ
offsets [] inputs = []
offsets (x ∷ point) [] = []
offsets (x ∷ point) (input ∷ inputs) = offset x input ∷ offsets point inputs

-- the range of the offsets of an input
abbrev pub offset_range : ℤ × ℤ → ℤ × ℤ
offset_range input = (offset input.0 input, offset input.1 input)

-- the design input at this place, over its range: its centre is the middle, it has no error, its
-- slope by itself is one, and by each other input 0
abbrev pub item_input : ℤ × ℤ → ℕ → Item
item_input input place =
    item (Some (record {
      centre = middle input;
      error = pos 0;
      slopes = set flat place (pos one, pos one);
    }))
    input

-- how far a slope takes a value from its centre over the range of an input
abbrev pub lean : ℤ × ℤ → ℤ × ℤ → Option (ℤ × ℤ)
lean slope input = outward (pair_mul slope (offset_range input))

-- a pair, and what each slope adds to it over the range of its input
abbrev pub form_from : Option (ℤ × ℤ) → List (ℤ × ℤ) → List (ℤ × ℤ) → Option (ℤ × ℤ)
form_from start [] inputs = start
form_from start (slope ∷ slopes) [] = start
form_from start (slope ∷ slopes) (input ∷ inputs) =
    form_from (of_pair pair_add start (lean slope input)) slopes inputs

-- the centred form: the centre, what each slope adds to it, and the error both ways
abbrev pub form : Known → List (ℤ × ℤ) → Option (ℤ × ℤ)
form k inputs =
    of_pair pair_add (form_from (Some (k.centre, k.centre)) k.slopes inputs)
    (Some (neg_ℤ k.error, k.error))

-- the common part of a range and a form; the range itself, where the form is undefined
abbrev pub common : ℤ × ℤ → Option (ℤ × ℤ) → ℤ × ℤ
common range None = range
common range (Some f) = (int_max range.0 f.0, int_min range.1 f.1)

-- the least absolute value of the numbers that are at least the first and at most the second
abbrev pub least_abs : ℤ × ℤ → ℤ
least_abs p = int_max (pos 0) (int_max p.0 (neg_ℤ p.1))

-- the least absolute value of an item over a box: that in the common part of its range and its form
abbrev pub lowest : Item → List (ℤ × ℤ) → ℤ
lowest a inputs = least_abs (common a.range (option_and_then (λ k. form k inputs) a.known))
