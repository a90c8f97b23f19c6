-- What an item of slopes says of a value. A point has a number for each design input, and its
-- offsets say how far each is from the centre of its input. (Slopes of interval arithmetic: Krawczyk
-- and Neumaier.)
use Rattle.std.specs.Prelude.{◌≡◌, ℤ, pos, ◌+ℤ◌, ◌-ℤ◌, ◌*ℤ◌, ◌≤ℤ◌, List, [], ◌∷◌, Some}
use Rattle.std.specs.Int.{int_min, int_max}
use Rattle.ldp_num.specs.Number.{one}
use Rattle.ldp_num.specs.Slopes.{Known, Item}
use Rattle.ldp_range.specs.Range.{LiesIn}

-- the least that slopes within these pairs give at a point: the sum of each offset times one end,
-- whichever product is less
abbrev pub least_sum : List (ℤ × ℤ) → List ℤ → ℤ
least_sum [] offsets = pos 0
least_sum (s ∷ slopes) [] = pos 0
least_sum (s ∷ slopes) (t ∷ offsets) =
    int_min (s.0 *ℤ t) (s.1 *ℤ t) +ℤ least_sum slopes offsets

-- the greatest that they give: the same, with whichever product is greater
abbrev pub greatest_sum : List (ℤ × ℤ) → List ℤ → ℤ
greatest_sum [] offsets = pos 0
greatest_sum (s ∷ slopes) [] = pos 0
greatest_sum (s ∷ slopes) (t ∷ offsets) =
    int_max (s.0 *ℤ t) (s.1 *ℤ t) +ℤ greatest_sum slopes offsets

-- x is what slopes within these pairs give at a point, up to e
pub record AreBounds (slopes : List (ℤ × ℤ)) (offsets : List ℤ) (x e : ℤ) : Type 0 where
  pub low : least_sum slopes offsets ≤ℤ (x +ℤ e)
  pub high : x ≤ℤ (greatest_sum slopes offsets +ℤ e)

-- the low end of each pair is at most its high end
abbrev pub InOrder : List (ℤ × ℤ) → Type 0
InOrder [] = Unit {0}
InOrder (s ∷ slopes) = (s.0 ≤ℤ s.1) × InOrder slopes

-- What is known of an item with this range describes the value v at a point: the centre lies in the
-- range, the error is not below 0, and the value is away from the centre by what the slopes give,
-- up to the error. These products are whole and not rounded: a slope and an offset are units, so
-- both sides are in units of units.
pub record Describes (offsets : List ℤ) (v : ℤ) (range : ℤ × ℤ) (k : Known) : Type 0 where
  pub centre : LiesIn k.centre range
  pub error : pos 0 ≤ℤ k.error
  pub ordered : InOrder k.slopes
  pub bounds : AreBounds k.slopes offsets (pos one *ℤ (v -ℤ k.centre)) (pos one *ℤ k.error)

-- an item meets the value v at a point: v lies in its range, and what is known describes v
pub record Meets (offsets : List ℤ) (v : ℤ) (a : Item) : Type 0 where
  pub range : LiesIn v a.range
  pub known : (k : Known) → a.known ≡ Some k → Describes offsets v a.range k
