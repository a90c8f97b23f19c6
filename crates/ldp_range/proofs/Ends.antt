-- The hull of two ranges, and the least and the greatest absolute value in a range.
use Rattle.std.proofs.Common.{◌≡◌, ℤ, pos, negsuc, ◌≤ℤ◌, inl, inr, arith}
use Rattle.std.proofs.lemmas.Int.{ints, clamps}
use Rattle.ldp_range.specs.Range.{twice, LiesIn, pair_hull, magnitude, pair_low_abs, pair_high_abs}
use Rattle.ldp_range.specs.Laws.{HullHolds, AbsoluteBounds, LeastIsNatural, AbsoluteOfOne}

-- what the hull holds
left-in-hull : (n : ℤ) (a b : ℤ × ℤ) → LiesIn n a → LiesIn n (pair_hull a b)
left-in-hull n a b h =
    record { low = omega (arith, ints, clamps, h.low); high = omega (arith, ints, clamps, h.high) }

right-in-hull : (n : ℤ) (a b : ℤ × ℤ) → LiesIn n b → LiesIn n (pair_hull a b)
right-in-hull n a b h =
    record { low = omega (arith, ints, clamps, h.low); high = omega (arith, ints, clamps, h.high) }

-- no number in the range has an absolute value below the least, or above the greatest
low_abs-natural : (a : ℤ × ℤ) → pos 0 ≤ℤ pair_low_abs a
low_abs-natural a = grind (arith, ints, clamps)

low_abs-below : (n : ℤ) (a : ℤ × ℤ) → LiesIn n a → pair_low_abs a ≤ℤ magnitude n
low_abs-below (pos n) a h = grind (arith, ints, clamps, h.low, h.high)
low_abs-below (negsuc n) a h = grind (arith, ints, clamps, h.low, h.high)

high_abs-above : (n : ℤ) (a : ℤ × ℤ) → LiesIn n a → magnitude n ≤ℤ pair_high_abs a
high_abs-above (pos n) a h = grind (arith, ints, clamps, h.low, h.high)
high_abs-above (negsuc n) a h = grind (arith, ints, clamps, h.low, h.high)

-- both are the absolute value of the one number of a pair of equal ends
low_abs-twice : (n : ℤ) → pair_low_abs (twice n) ≡ magnitude n
low_abs-twice (pos n) = grind (arith, ints, clamps)
low_abs-twice (negsuc n) = grind (arith, ints, clamps)

high_abs-twice : (n : ℤ) → pair_high_abs (twice n) ≡ magnitude n
high_abs-twice n = grind (arith, ints, clamps)

pub hull-holds : HullHolds
hull-holds n a b (inl h) = left-in-hull n a b h
hull-holds n a b (inr h) = right-in-hull n a b h

pub absolute-bounds : AbsoluteBounds
absolute-bounds n a h = record { least = low_abs-below n a h; greatest = high_abs-above n a h }

pub least-natural : LeastIsNatural
least-natural a = low_abs-natural a

pub absolute-of_one : AbsoluteOfOne
absolute-of_one n = (low_abs-twice n, high_abs-twice n)
