-- Where a box is cut, and which has no split.
use Rattle.std.proofs.Common.{◌≡◌, ℕ, ◌+◌, ◌/◌, ◌<◌, ◌≤◌, Bool, true, false, List, Option, Some}
use Rattle.std.proofs.Common.{None, refl, sym, ◌∙◌, ap, subst, arith}
use Rattle.std.specs.Prelude.{◌↔◌, IfSome, ◌-◌, ◌==◌, ◌&&◌, option_and_then, if◌then◌else◌}
use Rattle.std.proofs.lemmas.Bool.Decides.{nat_tests}
use Rattle.ldp_design.specs.declared.axis.AxisName.{AxisName}
use Rattle.ldp_design.specs.declared.axis.AxisName.TheVariants.{Lat, Lon, Azimuth, Scale}
use Rattle.ldp_design.specs.declared.family.Family.{Family}
use Rattle.ldp_design.specs.declared.design_box.DesignBox.{DesignBox}
use Rattle.ldp_design.specs.Families.{IsValid, AreGrids}
use Rattle.ldp_design.specs.Boxes.{span_of, is_single, IsBoxOf, LiesIn, IsSingle}
use Rattle.ldp_design.specs.Laws.{SinglesAreTested}
use Rattle.ldp_design.specs.Measures.{widest}
use Rattle.ldp_design.specs.Splits.{IsCut, middle, family_cut, cut_for}
use Rattle.ldp_design.proofs.Valid.{HasAxes, has_axes}
use Rattle.ldp_design.proofs.Wholes.{valid_family}
use Rattle.ldp_design.proofs.Widest.{widest-open}

-- the test of a single
one_index : (h i j k l m n o : ℕ) → ((h == i && j == k) && (l == m && n == o)) ≡ true
    → (h ≡ i) × (j ≡ k) × (l ≡ m) × (n ≡ o)
one_index h i j k l m n o t = (
  grind (arith, nat_tests),
  grind (arith, nat_tests),
  grind (arith, nat_tests),
  grind (arith, nat_tests),
)

one_indices : (h i j k l m n o : ℕ) → h ≡ i → j ≡ k → l ≡ m → n ≡ o
    → ((h == i && j == k) && (l == m && n == o)) ≡ true
one_indices h i j k l m n o a b c d = grind (arith, nat_tests)

pub is_single-is : (b : DesignBox) → is_single b ≡ true → IsSingle b
is_single-is b t =
    let same =
    one_index b.lat.lo b.lat.hi b.lon.lo b.lon.hi b.azimuth.lo b.azimuth.hi
    b.scale.lo b.scale.hi t in
    record {
      one = λ a. elim a as (λ x. (span_of x b).lo ≡ (span_of x b).hi)
          [ Lat ↦ same.0 | Lon ↦ same.1 | Azimuth ↦ same.2 | Scale ↦ same.3 ];
    }

pub single-is_single : (b : DesignBox) → IsSingle b → is_single b ≡ true
single-is_single b s =
    one_indices b.lat.lo b.lat.hi b.lon.lo b.lon.hi b.azimuth.lo b.azimuth.hi b.scale.lo b.scale.hi
    (s.one Lat) (s.one Lon) (s.one Azimuth) (s.one Scale)

pub singles_are_tested : SinglesAreTested
singles_are_tested b = (is_single-is b, single-is_single b)

pub ruleset singles = (is_single-is, single-is_single)

-- the middle of a span is below its end
pub middle-cut : (b : DesignBox) (a : AxisName) → (span_of a b).lo < (span_of a b).hi
    → IsCut a (middle a b) b
middle-cut b a h = record { low = omega arith; high = omega arith }

-- a cut, unless the test holds
abbrev cut_if : Bool → AxisName × ℕ → Option (AxisName × ℕ)
cut_if t c = if t then None else Some c

-- the cut of a box of a family
cut_found : (f : Family) (b : DesignBox) (a : AxisName) (at : ℕ) (t : Bool) → HasAxes f
    → IsBoxOf f b → is_single b ≡ t
    → cut_if t (widest f b, middle (widest f b) b) ≡ Some (a, at) → IsCut a at b
cut_found f b a at true h box e c = absurd cc
cut_found f b a at false h box e c =
    let same : ◌≡◌ {A = AxisName × ℕ} (widest f b, middle (widest f b) b) (a, at) = cc in
    subst (λ (p : AxisName × ℕ). IsCut p.0 p.1 b) same
    (middle-cut b (widest f b) (widest-open f b h box e))

pub family_cuts : (f : Family) (b : DesignBox) (a : AxisName) (at : ℕ) → HasAxes f → IsBoxOf f b
    → family_cut f b ≡ Some (a, at) → IsCut a at b
unfolding family_cut
family_cuts f b a at h box c = cut_found f b a at (is_single b) h box refl c

-- looked up, a box's cut is that of its family
pub cut_for-is : (families : List Family) (b : DesignBox) (h : LiesIn families b)
    → cut_for families b ≡ family_cut h.family b
cut_for-is families b h = ap (option_and_then (λ f. family_cut f b)) h.found

pub splits_cut : (families : List Family) (b : DesignBox) (a : AxisName) (at : ℕ)
    → AreGrids families → LiesIn families b → cut_for families b ≡ Some (a, at) → IsCut a at b
splits_cut families b a at g h c =
    let axes : HasAxes h.family =
    has_axes h.family (valid_family families b.family h.family g h.found) in
    family_cuts h.family b a at axes h.within (sym (cut_for-is families b h) ∙ c)

no_cut : (f : Family) (b : DesignBox) (t : Bool) → is_single b ≡ t
    → cut_if t (widest f b, middle (widest f b) b) ≡ None → IsSingle b
no_cut f b true e n = is_single-is b e
no_cut f b false e n = absurd cc

pub cut_ends : (f : Family) (b : DesignBox) → family_cut f b ≡ None → IsSingle b
unfolding family_cut
cut_ends f b n = no_cut f b (is_single b) refl n

pub single_ends : (f : Family) (b : DesignBox) → IsSingle b → family_cut f b ≡ None
unfolding family_cut
single_ends f b s = rw (single-is_single b s) refl

-- the code's answers
several : (f : Family) (b : DesignBox) (t : Bool) → t ≡ false
    → cut_if t (widest f b, middle (widest f b) b) ≡ Some (widest f b, middle (widest f b) b)
several f b true e = absurd cc
several f b false e = refl

half : (low high : ℕ) → low ≤ high → low + (high - low) / 2 ≡ (low + high) / 2
half low high h = omega arith

cut_at : AxisName → ℕ → Option (AxisName × ℕ)
cut_at a n = Some (a, n)

pub cut_made : (f : Family) (b : DesignBox) → IsBoxOf f b → is_single b ≡ false
    → ◌≡◌ {A = Option (AxisName × ℕ)}
    (Some (
      widest f b,
      (span_of (widest f b) b).lo
          + ((span_of (widest f b) b).hi - (span_of (widest f b) b).lo) / 2,
    ))
    (family_cut f b)
unfolding family_cut cut_at
cut_made f b h e =
    ap (cut_at (widest f b))
    (half (span_of (widest f b) b).lo (span_of (widest f b) b).hi (h.some (widest f b)))
    ∙ sym (several f b (is_single b) e)

pub cut_for_single : (f : Family) (b : DesignBox) (r : Option (AxisName × ℕ)) → r ≡ family_cut f b
    → (r ≡ None) ↔ IsSingle b
cut_for_single f b r e = (λ n. cut_ends f b (sym e ∙ n), λ s. e ∙ single_ends f b s)

pub cut_for_within : (f : Family) (b : DesignBox) (r : Option (AxisName × ℕ)) → IsValid f
    → IsBoxOf f b
    → r ≡ family_cut f b → IfSome r (λ c. IsCut c.0 c.1 b)
cut_for_within f b None v h e = tt
cut_for_within f b (Some c) v h e = family_cuts f b c.0 c.1 (has_axes f v) h (sym e)

pub singles_end : (families : List Family) (b : DesignBox) → LiesIn families b
    → (cut_for families b ≡ None) ↔ IsSingle b
singles_end families b h = (
  λ n. cut_ends h.family b (sym (cut_for-is families b h) ∙ n),
  λ s. cut_for-is families b h ∙ single_ends h.family b s,
)
