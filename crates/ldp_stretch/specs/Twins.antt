-- Twins of single ranges and of single numbers, and a hull as twins. (Own choice of this project.)
use Rattle.std.specs.Prelude.{ℤ, List, map}
use Rattle.ldp_num.specs.Twins.{TwinPair}
use Rattle.ldp_num.specs.declared.fix.Fix.{Fix}
use Rattle.ldp_range.specs.Range.{twice}
use Rattle.ldp_range.specs.Related.{Pairwise}
use Rattle.ldp_range.specs.Twin.{IsHeld, ends_twin}

-- each range of a hull stands for the numbers in it
abbrev pub hull_twins : List (ℤ × ℤ) → List TwinPair
hull_twins hull = map (λ range. (range, range)) hull

-- the twin of each range
abbrev pub range_twins : List (ℤ × ℤ) → List TwinPair
range_twins ranges = map ends_twin ranges

-- the twin of each number
abbrev pub number_twins : List Fix → List TwinPair
number_twins numbers = map (λ (one : Fix). ends_twin (twice one.n)) numbers

-- each twin stands for the range at its place
abbrev pub StandForRanges : List (ℤ × ℤ) → List TwinPair → Type 0
StandForRanges ranges twins = Pairwise IsHeld ranges twins
