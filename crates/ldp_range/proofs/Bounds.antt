-- The least absolute value of a range that a twin stands for.
use Rattle.std.proofs.Common.{◌≡◌, ℤ, pos, negsuc, ◌-ℤ◌, ◌≤ℤ◌, arith}
use Rattle.std.specs.Int.{int_max}
use Rattle.std.specs.Int.Signed.{≤ℤ_refl}
use Rattle.std.proofs.lemmas.Int.{ints, clamps}
use Rattle.ldp_range.specs.Range.{pair_low_abs}
use Rattle.ldp_range.specs.Laws.{TwinMost, TwinFewest, OwnTwin, TwinOfNumbers}

-- how far a range lies from 0
low_abs-is : (lo hi : ℤ) → lo ≤ℤ hi
    → pair_low_abs (lo, hi) ≡ int_max (pos 0) (int_max lo (pos 0 -ℤ hi))
low_abs-is (pos m) (pos n) h = grind (arith, ints, clamps)
low_abs-is (pos m) (negsuc n) h = absurd (omega (arith, ints))
low_abs-is (negsuc m) (pos n) h = grind (arith, ints, clamps)
low_abs-is (negsuc m) (negsuc n) h = grind (arith, ints, clamps)

pub most : TwinMost
most range t h =
    rw (low_abs-is range.0 range.1 h.ordered) (omega (arith, ints, clamps, h.low.high, h.high.low))

pub fewest : TwinFewest
fewest range t h =
    rw (low_abs-is range.0 range.1 h.ordered) (omega (arith, ints, clamps, h.low.low, h.high.high))

pub own : OwnTwin
own range h = record {
  ordered = h;
  low = record { low = ≤ℤ_refl range.0; high = ≤ℤ_refl range.0 };
  high = record { low = ≤ℤ_refl range.1; high = ≤ℤ_refl range.1 };
}

pub numbers : TwinOfNumbers
numbers n range h = record { ordered = ≤ℤ_refl n; low = h; high = h }
