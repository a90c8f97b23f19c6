-- The value of a list over the lists of numbers that values mean is what its value over the values
-- means.
use Rattle.std.specs.Prelude.{◌≡◌, ℕ, ℤ, List, map, Option, Some, option_map}
use Rattle.ldp_num.specs.Twins.{TwinPair}
use Rattle.ldp_num.specs.Slopes.{Item}
use Rattle.ldp_num.specs.Written.{written, range_ops, slope_ops, twin_ops, plain_out, pair_out}
use Rattle.ldp_num.specs.Written.{slope_in, slope_out, twin_out}
use Rattle.ldp_num.specs.StepList.{StepList, value, value_in}
use Rattle.ldp_num.specs.Root.{root, IsRoot}

-- carrier 0 runs over numbers
abbrev pub PlainValue : Type 0
PlainValue = (list : StepList) (inputs : List ℤ)
    → value_in (written 0) list (map plain_out inputs)
    ≡ option_map (map plain_out) (value list inputs)

-- and the way back: what a run of carrier 0 found is the value over numbers
abbrev pub PlainTold : Type 0
PlainTold = (list : StepList) (inputs : List ℤ) (found : Option (List ℤ))
    → value_in (written 0) list (map plain_out inputs) ≡ option_map (map plain_out) found
    → value list inputs ≡ found

-- carrier 1 runs over pairs
abbrev pub PairValue : Type 0
PairValue = (list : StepList) (inputs : List (ℤ × ℤ))
    → value_in (written 1) list (map pair_out inputs)
    ≡ option_map (map pair_out) (value_in range_ops list inputs)

-- and the way back: what a run of carrier 1 found is the value over pairs
abbrev pub PairTold : Type 0
PairTold = (list : StepList) (inputs : List (ℤ × ℤ)) (found : Option (List (ℤ × ℤ)))
    → value_in (written 1) list (map pair_out inputs) ≡ option_map (map pair_out) found
    → value_in range_ops list inputs ≡ found

-- carrier 2 runs over items of slopes
abbrev pub SlopeValue : Type 0
SlopeValue = (list : StepList) (inputs : List Item)
    → value_in (written 2) list (map slope_out inputs)
    ≡ option_map (map slope_out) (value_in slope_ops list inputs)

-- and the way back: what a run of carrier 2 found is the value over items
abbrev pub SlopeTold : Type 0
SlopeTold = (list : StepList) (inputs : List Item) (found : Option (List Item))
    → value_in (written 2) list (map slope_out inputs) ≡ option_map (map slope_out) found
    → value_in slope_ops list inputs ≡ found

-- the list that an item means is of no other item
abbrev pub SlopeBack : Type 0
SlopeBack = (a : Item) → slope_in (slope_out a) ≡ Some a

-- carrier 3 runs over twins
abbrev pub TwinValue : Type 0
TwinValue = (list : StepList) (inputs : List TwinPair)
    → value_in (written 3) list (map twin_out inputs)
    ≡ option_map (map twin_out) (value_in twin_ops list inputs)

-- and the way back: what a run of carrier 3 found is the value over twins
abbrev pub TwinTold : Type 0
TwinTold = (list : StepList) (inputs : List TwinPair) (found : Option (List TwinPair))
    → value_in (written 3) list (map twin_out inputs) ≡ option_map (map twin_out) found
    → value_in twin_ops list inputs ≡ found

-- the whole root is the greatest number whose square is at most n
abbrev pub WholeRoot : Type 0
WholeRoot = (n : ℕ) → IsRoot n (root n)
