-- The laws of ranges. A point is a number for each input, and a range for each input is a pair.
use Rattle.std.specs.Prelude.{◌≡◌, ◌⊎◌, ◌≤ℤ◌, IsTrue, Bool, ℤ, pos, List, map, option_map}
use Rattle.ldp_num.specs.declared.step.Step.{Step}
use Rattle.ldp_num.specs.Twins.{TwinPair}
use Rattle.ldp_num.specs.Written.{Ops, number_ops, range_ops, twin_ops}
use Rattle.ldp_num.specs.Steps.{results_of}
use Rattle.ldp_num.specs.StepList.{StepList, value, value_in}
use Rattle.ldp_range.specs.Range.{twice, LiesIn, IsNarrower, pair_hull, magnitude, pair_low_abs}
use Rattle.ldp_range.specs.Range.{pair_high_abs}
use Rattle.ldp_range.specs.Twin.{IsHeld, ends_twin, twin_most, twin_fewest}
use Rattle.ldp_range.specs.Related.{Follows, ResultsFollow, ValuesFollow}

-- Each operation is defined at numbers wherever it is at ranges that they lie in, and its result
-- lies in that of the ranges.
abbrev pub OperationsHold : Type 0
OperationsHold = Follows LiesIn number_ops range_ops

-- Inclusion: at each point of the ranges, a list has a value wherever it has one in ranges, and
-- each number of it lies in its range.
abbrev pub Inclusion : Type 0
Inclusion = ValuesFollow LiesIn number_ops range_ops

-- the same of the results of all steps
abbrev pub StepInclusion : Type 0
StepInclusion = ResultsFollow LiesIn number_ops range_ops

-- Sharpness: at ranges of one number each, a list has a value in ranges exactly where it has one at
-- that point, and each range of it is that of the one number.
abbrev pub Sharpness : Type 0
Sharpness = (list : StepList) (points : List ℤ)
    → value_in range_ops list (map twice points) ≡ option_map (map twice) (value list points)

-- the same of the results of all steps
abbrev pub StepSharpness : Type 0
StepSharpness = (steps : List Step) (points : List ℤ)
    → results_of range_ops (map twice points) steps
    ≡ option_map (map twice) (results_of number_ops points steps)

-- Isotony: where a list has a value over wider ranges, it has one over narrower ranges within them,
-- and each range of it lies within that of the wider ones.
abbrev pub Isotony : Type 0
Isotony = ValuesFollow IsNarrower range_ops range_ops

-- the same of the results of all steps
abbrev pub StepIsotony : Type 0
StepIsotony = ResultsFollow IsNarrower range_ops range_ops

-- Inclusion of twins: where a list has a value in twins, it has one over each choice of ranges that
-- they stand for, and each range of it is one of those that its twin stands for.
abbrev pub TwinInclusion : Type 0
TwinInclusion = ValuesFollow IsHeld range_ops twin_ops

-- the same of the results of all steps
abbrev pub StepTwinInclusion : Type 0
StepTwinInclusion = ResultsFollow IsHeld range_ops twin_ops

-- Of any two types of values: where each operation of f follows that of g, so does the value of
-- every list.
abbrev pub Following : Type 0 → Type 0 → Type 0
Following A B = (R : A → B → Bool) (f : Ops A) (g : Ops B)
    → Follows (λ a b. IsTrue (R a b)) f g → ValuesFollow (λ a b. IsTrue (R a b)) f g

-- the same of the results of all steps
abbrev pub StepFollowing : Type 0 → Type 0 → Type 0
StepFollowing A B = (R : A → B → Bool) (f : Ops A) (g : Ops B)
    → Follows (λ a b. IsTrue (R a b)) f g → ResultsFollow (λ a b. IsTrue (R a b)) f g

-- the hull holds what either range holds
abbrev pub HullHolds : Type 0
HullHolds = (n : ℤ) (a b : ℤ × ℤ) → LiesIn n a ⊎ LiesIn n b → LiesIn n (pair_hull a b)

-- the absolute value of a number is from the least to the greatest of a range
pub record IsAbsoluteBetween (n : ℤ) (a : ℤ × ℤ) : Type 0 where
  pub least : pair_low_abs a ≤ℤ magnitude n
  pub greatest : magnitude n ≤ℤ pair_high_abs a

-- these bounds hold for each number of a range
abbrev pub AbsoluteBounds : Type 0
AbsoluteBounds = (n : ℤ) (a : ℤ × ℤ) → LiesIn n a → IsAbsoluteBetween n a

-- the least absolute value of a range is at least 0
abbrev pub LeastIsNatural : Type 0
LeastIsNatural = (a : ℤ × ℤ) → pos 0 ≤ℤ pair_low_abs a

-- at a range of one number both are its absolute value
abbrev pub AbsoluteOfOne : Type 0
AbsoluteOfOne = (n : ℤ)
    → (pair_low_abs (twice n) ≡ magnitude n) × (pair_high_abs (twice n) ≡ magnitude n)

-- the twin's bound from above: no range that it stands for has a greater least absolute value
abbrev pub TwinMost : Type 0
TwinMost = (range : ℤ × ℤ) (twin : TwinPair) → IsHeld range twin
    → pair_low_abs range ≤ℤ twin_most twin

-- the twin's bound from below: no range that it stands for has a lesser least absolute value
abbrev pub TwinFewest : Type 0
TwinFewest = (range : ℤ × ℤ) (twin : TwinPair) → IsHeld range twin
    → twin_fewest twin ≤ℤ pair_low_abs range

-- the twin of one range stands for it
abbrev pub OwnTwin : Type 0
OwnTwin = (range : ℤ × ℤ) → range.0 ≤ℤ range.1 → IsHeld range (ends_twin range)

-- a range, twice, stands for each number in it
abbrev pub TwinOfNumbers : Type 0
TwinOfNumbers = (n : ℤ) (range : ℤ × ℤ) → LiesIn n range → IsHeld (twice n) (range, range)
