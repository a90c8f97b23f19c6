-- The laws of items of slopes.
use Rattle.std.specs.Prelude.{◌≡◌, ℕ, ◌<◌, ℤ, pos, ◌≤ℤ◌, List, map, slice_get, Some, option_map}
use Rattle.ldp_num.specs.declared.step.Step.{Step}
use Rattle.ldp_num.specs.Slopes.{Item}
use Rattle.ldp_num.specs.Written.{number_ops, range_ops, slope_ops}
use Rattle.ldp_num.specs.Steps.{results_of}
use Rattle.ldp_num.specs.StepList.{StepList, value_in}
use Rattle.ldp_range.specs.Range.{twice, LiesIn, magnitude, pair_low_abs}
use Rattle.ldp_range.specs.Related.{Pairwise, Follows, ResultsFollow, ValuesFollow}
use Rattle.ldp_centred.specs.Lowest.{offset, offsets, item_input, lowest}
use Rattle.ldp_centred.specs.Soundness.{Meets}

-- At whatever offsets: each operation is defined at numbers wherever it is at items that they meet,
-- and its result is met by that of the items.
abbrev pub OperationsMeet : Type 0
OperationsMeet = (offsets : List ℤ) → Follows (Meets offsets) number_ops slope_ops

-- Soundness: where the inputs of a list, as items, meet numbers at a point, the list has a value at
-- those numbers wherever it has one in items, and each item of it meets its number.
abbrev pub Soundness : Type 0
Soundness = (offsets : List ℤ) → ValuesFollow (Meets offsets) number_ops slope_ops

-- the same of the results of all steps
abbrev pub StepSoundness : Type 0
StepSoundness = (offsets : List ℤ) → ResultsFollow (Meets offsets) number_ops slope_ops

-- the range of an item
abbrev pub range_of : Item → ℤ × ℤ
range_of a = a.range

-- Ranges: a list has a value in items exactly where it has one in their ranges, and the ranges of
-- the one are the other.
abbrev pub RangesKept : Type 0
RangesKept = (list : StepList) (inputs : List Item)
    → value_in range_ops list (map range_of inputs)
    ≡ option_map (map range_of) (value_in slope_ops list inputs)

-- the same of the results of all steps
abbrev pub StepRangesKept : Type 0
StepRangesKept = (steps : List Step) (inputs : List Item)
    → results_of range_ops (map range_of inputs) steps
    ≡ option_map (map range_of) (results_of slope_ops inputs steps)

-- the least absolute value over a box is at most that of the value at each point of the box
abbrev pub LowestIsBelow : Type 0
LowestIsBelow = (point : List ℤ) (inputs : List (ℤ × ℤ)) (v : ℤ) (a : Item)
    → Pairwise LiesIn point inputs → Meets (offsets point inputs) v a
    → lowest a inputs ≤ℤ magnitude v

-- it is at least the least absolute value of the range alone
abbrev pub LowestIsSharper : Type 0
LowestIsSharper = (inputs : List (ℤ × ℤ)) (a : Item) → a.range.0 ≤ℤ a.range.1
    → pair_low_abs a.range ≤ℤ lowest a inputs

-- of an item whose range is one number it is the absolute value of that number
abbrev pub LowestIsExact : Type 0
LowestIsExact = (point : List ℤ) (inputs : List (ℤ × ℤ)) (v : ℤ) (a : Item)
    → Pairwise LiesIn point inputs → Meets (offsets point inputs) v a → a.range ≡ twice v
    → lowest a inputs ≡ magnitude v

-- it is never below 0
abbrev pub LowestIsNatural : Type 0
LowestIsNatural = (inputs : List (ℤ × ℤ)) (a : Item) → pos 0 ≤ℤ lowest a inputs

-- the item of one of the four design inputs meets that input at each point of its range
abbrev pub InputMeets : Type 0
InputMeets = (place : ℕ) (x : ℤ) (input : ℤ × ℤ) (offsets : List ℤ) → place < 4 → LiesIn x input
    → slice_get offsets place ≡ Some (offset x input) → Meets offsets x (item_input input place)
