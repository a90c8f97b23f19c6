-- The order of costs: by the number of cells beyond the tolerance, and where that is equal by the
-- distortion.
use Rattle.std.specs.Prelude.{◌≡◌, Bool, false}
use Rattle.std.specs.Ordering.{nat_cmp, ordering_then, is_lt}
use Rattle.std.specs.declared.cmp.Ordering.{Ordering}
use Rattle.ldp_problem.specs.declared.pair.Pair.{Pair}

-- by the number of cells beyond the tolerance, and if that is equal by the distortion
abbrev pub pair_cmp : Pair → Pair → Ordering
pair_cmp a b = ordering_then (nat_cmp a.over b.over) (nat_cmp a.value b.value)

-- whether the first of two costs is strictly less
abbrev pub is_smaller : Pair → Pair → Bool
is_smaller a b = is_lt (pair_cmp a b)

-- no smaller pair on the right
abbrev pub AtMost : Pair → Pair → Type 0
AtMost a b = is_smaller b a ≡ false
