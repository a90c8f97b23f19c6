-- The axis of greatest measure has several indices in each box that is no single.
use Rattle.std.proofs.Common.{◌≡◌, ℕ, ◌<◌, ◌≤◌, ◌⊎◌, Bool, true, false, ℤ, pos, negsuc, ◌-ℤ◌, ◌*ℤ◌}
use Rattle.std.proofs.Common.{◌≤ℤ◌, ◌<ℤ◌, inl, inr, refl, ap, arith}
use Rattle.std.specs.Prelude.{int_lt, ◌==◌, ◌&&◌, if◌then◌else◌}
use Rattle.std.specs.Int.Signed.{≤ℤ_refl}
use Rattle.std.proofs.lemmas.Int.{ints}
use Rattle.std.proofs.lemmas.Bool.{cases_lt}
use Rattle.std.proofs.lemmas.Bool.Decides.{nat_tests}
use Rattle.ldp_design.specs.declared.axis.AxisName.{AxisName}
use Rattle.ldp_design.specs.declared.axis.AxisName.TheVariants.{Lat, Lon, Azimuth, Scale}
use Rattle.ldp_design.specs.declared.family.Family.{Family}
use Rattle.ldp_design.specs.declared.design_box.DesignBox.{DesignBox}
use Rattle.ldp_design.specs.Families.{value_at}
use Rattle.ldp_design.specs.Boxes.{span_of, is_single, IsBoxOf}
use Rattle.ldp_design.specs.Inputs.{angle_at}
use Rattle.ldp_design.specs.Measures.{measure, wider, widest}
use Rattle.ldp_design.proofs.Axes.{value-lt, angle-lt}
use Rattle.ldp_design.proofs.Valid.{HasAxes}

scaled : (z : ℤ) → pos 0 <ℤ z → pos 0 <ℤ (pos 64 *ℤ z)
scaled (pos a) h = omega (arith, ints)
scaled (negsuc a) h = absurd (omega (arith, ints))

scaled-zero : (z : ℤ) → z ≡ pos 0 → pos 64 *ℤ z ≡ pos 0
scaled-zero z e = ap (λ w. pos 64 *ℤ w) e

apart : (x y : ℤ) → x <ℤ y → pos 0 <ℤ (y -ℤ x)
apart x y h = omega (arith, ints)

none_apart : (x y : ℤ) → x ≡ y → y -ℤ x ≡ pos 0
none_apart x y h = omega (arith, ints)

-- the indices of an axis in the box
abbrev IsOpen : AxisName → DesignBox → Type 0
IsOpen a b = (span_of a b).lo < (span_of a b).hi

-- an axis of several indices has a measure above 0, and an axis of one has measure 0
measure-open : (f : Family) (b : DesignBox) (a : AxisName) → HasAxes f → IsOpen a b
    → pos 0 <ℤ measure f b a
unfolding measure
measure-open f b Lat h o = apart _ _ (angle-lt f.lat b.lat.lo b.lat.hi h.lat.forward o)
measure-open f b Lon h o = apart _ _ (angle-lt f.lon b.lon.lo b.lon.hi h.lon.forward o)
measure-open f b Azimuth h o =
    apart _ _ (angle-lt f.azimuth b.azimuth.lo b.azimuth.hi h.azimuth.forward o)
measure-open f b Scale h o =
    scaled _ (apart _ _ (value-lt f.scale b.scale.lo b.scale.hi h.scale.forward o))

measure-closed : (f : Family) (b : DesignBox) (a : AxisName) → (span_of a b).lo ≡ (span_of a b).hi
    → measure f b a ≡ pos 0
unfolding measure
measure-closed f b Lat e = none_apart _ _ (ap (angle_at f.lat) e)
measure-closed f b Lon e = none_apart _ _ (ap (angle_at f.lon) e)
measure-closed f b Azimuth e = none_apart _ _ (ap (angle_at f.azimuth) e)
measure-closed f b Scale e = scaled-zero _ (none_apart _ _ (ap (value_at f.scale) e))

measured : (f : Family) (b : DesignBox) (a : AxisName) → IsBoxOf f b → pos 0 <ℤ measure f b a
    → (IsOpen a b) ⊎ ((span_of a b).hi ≤ (span_of a b).lo) → IsOpen a b
measured f b a box some (inl o) = o
measured f b a box some (inr c) =
    let closed : measure f b a ≡ pos 0 = measure-closed f b a (omega (arith, box.some a)) in
    absurd (omega (arith, ints))

pub open-measured : (f : Family) (b : DesignBox) (a : AxisName) → IsBoxOf f b
    → pos 0 <ℤ measure f b a → IsOpen a b
open-measured f b a box some = measured f b a box some (cases_lt (span_of a b).lo (span_of a b).hi)

lt-true : (x y : ℤ) → int_lt x y ≡ true → x ≤ℤ y
lt-true x y e = grind (arith, ints)

lt-false : (x y : ℤ) → int_lt x y ≡ false → y ≤ℤ x
lt-false x y e = grind (arith, ints)

-- the greater of two is as great as each
pub record IsAsGreat (x y z : ℤ) : Type 0 where
  pub first : x ≤ℤ z
  pub second : y ≤ℤ z

greater_of : (g : AxisName → ℤ) (x y : AxisName) (t : Bool) → int_lt (g x) (g y) ≡ t
    → IsAsGreat (g x) (g y) (g (if t then y else x))
greater_of g x y true e = record { first = lt-true (g x) (g y) e; second = ≤ℤ_refl (g y) }
greater_of g x y false e = record { first = ≤ℤ_refl (g x); second = lt-false (g x) (g y) e }

wider-great : (f : Family) (b : DesignBox) (x y : AxisName)
    → IsAsGreat (measure f b x) (measure f b y) (measure f b (wider f b x y))
wider-great f b x y = greater_of (measure f b) x y (int_lt (measure f b x) (measure f b y)) refl

-- the widest axis is as wide as each
widest-great : (f : Family) (b : DesignBox) (a : AxisName)
    → measure f b a ≤ℤ measure f b (widest f b)
widest-great f b a = as_great a
  where
    two : AxisName
    two = wider f b Lat Lon

    three : AxisName
    three = wider f b two Azimuth

    of_two : IsAsGreat (measure f b Lat) (measure f b Lon) (measure f b two)
    of_two = wider-great f b Lat Lon

    of_three : IsAsGreat (measure f b two) (measure f b Azimuth) (measure f b three)
    of_three = wider-great f b two Azimuth

    of_four : IsAsGreat (measure f b three) (measure f b Scale) (measure f b (widest f b))
    of_four = wider-great f b three Scale

    as_great : (axis : AxisName) → measure f b axis ≤ℤ measure f b (widest f b)
    as_great Lat = omega (arith, ints, of_two, of_three, of_four)
    as_great Lon = omega (arith, ints, of_two, of_three, of_four)
    as_great Azimuth = omega (arith, ints, of_three, of_four)
    as_great Scale = omega (arith, ints, of_four)

-- an axis of several indices, in a box that is no single
pub record HasOpen (b : DesignBox) : Type 0 where
  pub axis : AxisName
  pub several : IsOpen axis b

some_open : (f : Family) (b : DesignBox) → IsBoxOf f b → is_single b ≡ false
    → (IsOpen Lat b) ⊎ (b.lat.hi ≤ b.lat.lo) → (IsOpen Lon b) ⊎ (b.lon.hi ≤ b.lon.lo)
    → (IsOpen Azimuth b) ⊎ (b.azimuth.hi ≤ b.azimuth.lo)
    → (IsOpen Scale b) ⊎ (b.scale.hi ≤ b.scale.lo) → HasOpen b
some_open f b box e (inl o) _ _ _ = record { axis = Lat; several = o }
some_open f b box e (inr _) (inl o) _ _ = record { axis = Lon; several = o }
some_open f b box e (inr _) (inr _) (inl o) _ = record { axis = Azimuth; several = o }
some_open f b box e (inr _) (inr _) (inr _) (inl o) = record { axis = Scale; several = o }
some_open f b box e (inr p) (inr q) (inr r) (inr s) =
    absurd (none_open b.lat.lo b.lat.hi b.lon.lo b.lon.hi b.azimuth.lo b.azimuth.hi
    b.scale.lo b.scale.hi
    p (box.some Lat) q (box.some Lon) r (box.some Azimuth) s (box.some Scale) e)
  where
    none_open : (h i j k l m n o : ℕ) → i ≤ h → h ≤ i → k ≤ j → j ≤ k → m ≤ l → l ≤ m → o ≤ n
        → n ≤ o
        → ((h == i && j == k) && (l == m && n == o)) ≡ false → ⊥
    none_open h i j k l m n o a b c d e f g p t = grind (arith, nat_tests)

open_axis : (f : Family) (b : DesignBox) → IsBoxOf f b → is_single b ≡ false → HasOpen b
open_axis f b box e =
    some_open f b box e (cases_lt b.lat.lo b.lat.hi) (cases_lt b.lon.lo b.lon.hi)
    (cases_lt b.azimuth.lo b.azimuth.hi) (cases_lt b.scale.lo b.scale.hi)

pub widest-open : (f : Family) (b : DesignBox) → HasAxes f → IsBoxOf f b → is_single b ≡ false
    → IsOpen (widest f b) b
widest-open f b h box e =
    let some : HasOpen b = open_axis f b box e in
    let wide : pos 0 <ℤ measure f b some.axis = measure-open f b some.axis h some.several in
    let great : measure f b some.axis ≤ℤ measure f b (widest f b) = widest-great f b some.axis in
    open-measured f b (widest f b) box (omega (arith, ints))
