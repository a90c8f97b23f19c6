-- The values of an axis, in degrees and in radians.
use Rattle.std.proofs.Common.{◌≡◌, ℕ, suc, ◌-◌, ◌*◌, ◌<◌, ◌≤◌, ℤ, pos, negsuc, ◌+ℤ◌, ◌*ℤ◌, ◌≤ℤ◌}
use Rattle.std.proofs.Common.{◌<ℤ◌, arith}
use Rattle.std.proofs.Math.Nat.{mul-le-mul_right}
use Rattle.std.proofs.lemmas.Int.{ints}
use Rattle.ldp_num.specs.Plain.{floor_div}
use Rattle.ldp_num.specs.Units.{pi, radians_of}
use Rattle.ldp_design.specs.declared.axis.Axis.{Axis}
use Rattle.ldp_design.specs.Families.{value_at, IsAxis}
use Rattle.ldp_design.specs.Inputs.{angle_at}

-- more steps, where a step goes up
pub steps-le : (i j : ℕ) (s : ℤ) → pos 0 <ℤ s → i ≤ j → (pos i *ℤ s) ≤ℤ (pos j *ℤ s)
steps-le i j (pos c) h k = omega (arith, ints, mul-le-mul_right {m = i} {n = j} c k)
steps-le i j (negsuc c) h k = absurd (omega (arith, ints))

pub steps-lt : (i j : ℕ) (s : ℤ) → pos 0 <ℤ s → i < j → (pos i *ℤ s) <ℤ (pos j *ℤ s)
steps-lt i j (pos c) h k = omega (arith, ints, mul-le-mul_right {m = suc i} {n = j} c (omega arith))
steps-lt i j (negsuc c) h k = absurd (omega (arith, ints))

pub value-le : (axis : Axis) (i j : ℕ) → pos 0 <ℤ axis.step → i ≤ j
    → value_at axis i ≤ℤ value_at axis j
value-le axis i j h k = omega (arith, ints, steps-le i j axis.step h k)

pub value-lt : (axis : Axis) (i j : ℕ) → pos 0 <ℤ axis.step → i < j
    → value_at axis i <ℤ value_at axis j
value-lt axis i j h k = omega (arith, ints, steps-lt i j axis.step h k)

pub value-first : (axis : Axis) → value_at axis 0 ≡ axis.from
value-first axis = first axis.step
  where
    first : (s : ℤ) → axis.from +ℤ (pos 0 *ℤ s) ≡ axis.from
    first (pos c) = omega (arith, ints)
    first (negsuc c) = omega (arith, ints)

-- each value lies from the first to the last
pub record IsWithin (low high z : ℤ) : Type 0 where
  pub above : low ≤ℤ z
  pub below : z ≤ℤ high

pub value-within : (low high : ℤ) (axis : Axis) (i : ℕ) → IsAxis low high axis → i < axis.count
    → IsWithin low high (value_at axis i)
value-within low high axis i h k = record {
  above = omega (arith, ints, value-first axis, value-le axis 0 i h.forward (omega arith), h.first);
  below = omega (arith, ints, value-le axis i (axis.count - 1) h.forward (omega arith), h.last);
}

-- quotients by the unit of radians, rounded down
floor-le : (x y : ℤ) → x ≤ℤ y
    → floor_div x (180 * 1000000000000) ≤ℤ floor_div y (180 * 1000000000000)
floor-le (pos a) (pos b) h = omega (arith, ints)
floor-le (pos a) (negsuc b) h = absurd (omega (arith, ints))
floor-le (negsuc a) (pos b) h = omega (arith, ints)
floor-le (negsuc a) (negsuc b) h = omega (arith, ints)

floor-lt : (x y : ℤ) → (x +ℤ pos 180000000000000) ≤ℤ y
    → floor_div x (180 * 1000000000000) <ℤ floor_div y (180 * 1000000000000)
floor-lt (pos a) (pos b) h = omega (arith, ints)
floor-lt (pos a) (negsuc b) h = absurd (omega (arith, ints))
floor-lt (negsuc a) (pos b) h = omega (arith, ints)
floor-lt (negsuc a) (negsuc b) h = omega (arith, ints)

times-le : (x y : ℤ) → x ≤ℤ y → (x *ℤ pos pi) ≤ℤ (y *ℤ pos pi)
times-le (pos a) (pos b) h = omega (arith, ints)
times-le (pos a) (negsuc b) h = absurd (omega (arith, ints))
times-le (negsuc a) (pos b) h = omega (arith, ints)
times-le (negsuc a) (negsuc b) h = omega (arith, ints)

times-lt : (x y : ℤ) → x <ℤ y → ((x *ℤ pos pi) +ℤ pos 180000000000000) ≤ℤ (y *ℤ pos pi)
times-lt (pos a) (pos b) h = omega (arith, ints)
times-lt (pos a) (negsuc b) h = absurd (omega (arith, ints))
times-lt (negsuc a) (pos b) h = omega (arith, ints)
times-lt (negsuc a) (negsuc b) h = omega (arith, ints)

-- a greater angle has radians that are not smaller; two angles have different radians, since the
-- unit of angles is greater
pub radians-le : (x y : ℤ) → x ≤ℤ y → radians_of x ≤ℤ radians_of y
radians-le x y h = floor-le (x *ℤ pos pi) (y *ℤ pos pi) (times-le x y h)

pub radians-lt : (x y : ℤ) → x <ℤ y → radians_of x <ℤ radians_of y
radians-lt x y h = floor-lt (x *ℤ pos pi) (y *ℤ pos pi) (times-lt x y h)

pub angle-le : (axis : Axis) (i j : ℕ) → pos 0 <ℤ axis.step → i ≤ j
    → angle_at axis i ≤ℤ angle_at axis j
angle-le axis i j h k = radians-le (value_at axis i) (value_at axis j) (value-le axis i j h k)

pub angle-lt : (axis : Axis) (i j : ℕ) → pos 0 <ℤ axis.step → i < j
    → angle_at axis i <ℤ angle_at axis j
angle-lt axis i j h k = radians-lt (value_at axis i) (value_at axis j) (value-lt axis i j h k)
