-- The ranges of the differences that are multiplied.
use Rattle.std.specs.Prelude.{◌*◌, ◌^◌, ℤ, pos, neg_ℤ}
use Rattle.ldp_quantity.specs.Between.{IsBetween}

-- at most 2 * 10^20 in absolute value
abbrev pub IsWide : ℤ → Type 0
IsWide = IsBetween (neg_ℤ (pos (2 * 10 ^ 20))) (pos (2 * 10 ^ 20))

-- at most 8 * 10^14 in absolute value
abbrev pub IsNarrow : ℤ → Type 0
IsNarrow = IsBetween (neg_ℤ (pos (8 * 10 ^ 14))) (pos (8 * 10 ^ 14))
