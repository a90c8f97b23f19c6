-- Families by number, the whole of a family, and the designs of a box.
use Rattle.std.proofs.Common.{◌≡◌, ℕ, zero, suc, ◌<◌, ◌≤◌, Bool, true, false, length, List, Option}
use Rattle.std.proofs.Common.{Some}
use Rattle.std.proofs.Common.{None, refl, sym, ◌∙◌, ap, subst, arith}
use Rattle.std.specs.Prelude.{option_map, IsTrue, ◌↔◌}
use Rattle.std.proofs.lemmas.Option.{slice_get_within, get_or_from_slice_get}
use Rattle.std.proofs.lemmas.List.Elements.{All-get_or}
use Rattle.ldp_design.specs.declared.axis.AxisName.{AxisName}
use Rattle.ldp_design.specs.declared.axis.AxisName.TheVariants.{Lat, Lon, Azimuth, Scale}
use Rattle.ldp_design.specs.declared.family.Family.{Family}
use Rattle.ldp_design.specs.declared.design.Design.{Design}
use Rattle.ldp_design.specs.declared.design_box.DesignBox.{DesignBox}
use Rattle.ldp_design.specs.Families.{IsValid, AreGrids, family_of}
use Rattle.ldp_design.specs.Designs.{axis_of, index_of, IsDesignOf, IsAdmitted, has_design}
use Rattle.ldp_design.specs.Designs.{is_design_of, is_admitted}
use Rattle.ldp_design.specs.Laws.{AdmittedAreTested, FirstsAreIn, FirstsAreAdmitted}
use Rattle.std.proofs.lemmas.Bool.Decides.{nat_tests}
use Rattle.ldp_design.specs.Boxes.{span_of, IsIn, IsBoxOf, LiesIn, IsSingle, whole_box}
use Rattle.ldp_design.specs.Laws.{IsWhole}
use Rattle.ldp_design.specs.Boxes.{whole_of, first_of, last_of}
use Rattle.ldp_design.proofs.Valid.{HasAxes, has_axes}

-- a family with a number is valid
pub valid_family : (families : List Family) (number : ℕ) (f : Family) → AreGrids families
    → family_of families number ≡ Some f → IsValid f
valid_family families zero f g e = absurd cc
valid_family families (suc k) f g e =
    subst IsValid (get_or_from_slice_get families k f f e)
    (All-get_or IsValid families k f (slice_get_within families k f e) g.valid)

-- two families with one number are one
pub same_family : (families : List Family) (number : ℕ) (f g : Family)
    → family_of families number ≡ Some f → family_of families number ≡ Some g → f ≡ g
same_family families number f g h k = cc

pub whole_lies : (f : Family) (number : ℕ) → IsValid f → IsBoxOf f (whole_box number f)
whole_lies f number h =
    let axes : HasAxes f = has_axes f h in
    record { some = some; within = within axes }
  where
    some : (a : AxisName)
        → (span_of a (whole_box number f)).lo ≤ (span_of a (whole_box number f)).hi
    some Lat = omega arith
    some Lon = omega arith
    some Azimuth = omega arith
    some Scale = omega arith

    within : HasAxes f → (a : AxisName) → (span_of a (whole_box number f)).hi < (axis_of a f).count
    within x Lat = omega (arith, x.lat.some)
    within x Lon = omega (arith, x.lon.some)
    within x Azimuth = omega (arith, x.azimuth.some)
    within x Scale = omega (arith, x.scale.some)

whole_has : (f : Family) (number : ℕ) (d : Design) → d.family ≡ number → IsDesignOf f d
    → IsIn d (whole_box number f)
whole_has f number d e h = record { family = e; low = low; high = high }
  where
    low : (a : AxisName) → (span_of a (whole_box number f)).lo ≤ index_of a d
    low Lat = omega arith
    low Lon = omega arith
    low Azimuth = omega arith
    low Scale = omega arith

    high : (a : AxisName) → index_of a d ≤ (span_of a (whole_box number f)).hi
    high Lat = omega (arith, h.lat)
    high Lon = omega (arith, h.lon)
    high Azimuth = omega (arith, h.azimuth)
    high Scale = omega (arith, h.scale)

-- the whole box of a family with a number
pub whole_found : (families : List Family) (number : ℕ) (f : Family) → IsValid f
    → family_of families number ≡ Some f → IsWhole families number (whole_box number f)
whole_found families number f v e = record {
  lies = record { family = f; found = e; within = whole_lies f number v };
  family = refl;
  holds = λ d h n.
      let same : h.family ≡ f =
      same_family families number h.family f (ap (family_of families) (sym n) ∙ h.found) e in
      whole_has f number d n (subst (λ x. IsDesignOf x d) same h.within);
}

found_whole : (families : List Family) (number : ℕ) (b : DesignBox) (o : Option Family)
    → AreGrids families
    → family_of families number ≡ o → option_map (whole_box number) o ≡ Some b
    → IsWhole families number b
found_whole families number b None g e h = absurd cc
found_whole families number b (Some f) g e h =
    let same : whole_box number f ≡ b = cc in
    subst (λ x. IsWhole families number x) same
    (whole_found families number f (valid_family families number f g e) e)

pub wholes_hold : (families : List Family) (number : ℕ) (b : DesignBox)
    → AreGrids families → whole_of families number ≡ Some b → IsWhole families number b
wholes_hold families number b g h =
    found_whole families number b (family_of families number) g refl h

-- a design of a box of a family is one of the family's
pub design_within : (f : Family) (b : DesignBox) (d : Design) → IsBoxOf f b → IsIn d b
    → IsDesignOf f d
design_within f b d h i = record {
  lat = omega (arith, h.within Lat, i.high Lat);
  lon = omega (arith, h.within Lon, i.high Lon);
  azimuth = omega (arith, h.within Azimuth, i.high Azimuth);
  scale = omega (arith, h.within Scale, i.high Scale);
}

pub boxes_are_admitted : (families : List Family) (b : DesignBox) (d : Design) → LiesIn families b
    → IsIn d b → IsAdmitted families d
boxes_are_admitted families b d h i = record {
  family = h.family;
  found = ap (family_of families) i.family ∙ h.found;
  within = design_within h.family b d h.within i;
}

-- a box lies in the family that has its number
pub box_of : (families : List Family) (b : DesignBox) (f : Family) → LiesIn families b
    → family_of families b.family ≡ Some f → IsBoxOf f b
box_of families b f h e =
    subst (λ x. IsBoxOf x b) (same_family families b.family h.family f h.found e) h.within

-- an admissible design is one of the family that has its number
pub design_of : (families : List Family) (d : Design) (f : Family) → IsAdmitted families d
    → family_of families d.family ≡ Some f → IsDesignOf f d
design_of families d f h e =
    subst (λ x. IsDesignOf x d) (same_family families d.family h.family f h.found e) h.within

known_number : (families : List Family) (number : ℕ) (f : Family)
    → family_of families number ≡ Some f → (1 ≤ number) × (number ≤ length families)
known_number families zero f e = absurd cc
known_number families (suc k) f e =
    let within = slice_get_within families k f e in (omega arith, omega arith)

-- the answers of the test
pub not_admitted : (families : List Family) (d : Design)
    → (1 ≤ d.family → d.family ≤ length families → ⊥) → (IsTrue false) ↔ IsAdmitted families d
not_admitted families d h = (
  λ t. absurd cc,
  λ a. let n = known_number families d.family a.family a.found in absurd (h n.0 n.1),
)

pub admitted_by : (families : List Family) (d : Design) (f : Family) (t : Bool)
    → family_of families d.family ≡ Some f
    → (IsTrue t) ↔ IsDesignOf f d → (IsTrue t) ↔ IsAdmitted families d
admitted_by families d f t e h =
    (λ u. record { family = f; found = e; within = h.0 u }, λ a. h.1 (design_of families d f a e))

pub design_is : (f : Family) (d : Design) → has_design f d ≡ true → IsDesignOf f d
design_is f d e = record {
  lat = grind (arith, nat_tests);
  lon = grind (arith, nat_tests);
  azimuth = grind (arith, nat_tests);
  scale = grind (arith, nat_tests);
}

pub has_it : (f : Family) (d : Design) → IsDesignOf f d → has_design f d ≡ true
has_it f d h = grind (arith, nat_tests, h.lat, h.lon, h.azimuth, h.scale)

admitted_of : (families : List Family) (d : Design) (f : Option Family)
    → family_of families d.family ≡ f
    → is_design_of f d ≡ true → IsAdmitted families d
admitted_of families d None e h = absurd cc
admitted_of families d (Some f) e h = record { family = f; found = e; within = design_is f d h }

pub admitted_are_tested : AdmittedAreTested
admitted_are_tested families d = (
  λ h. admitted_of families d (family_of families d.family) refl h,
  λ a. rw a.found (has_it a.family d a.within),
)

-- the test finds no family that has no number
pub no_family : (families : List Family) (d : Design)
    → (1 ≤ d.family → d.family ≤ length families → ⊥) → false ≡ is_admitted families d
no_family families d h = no_number (family_of families d.family) refl
  where
    no_number : (f : Option Family) → family_of families d.family ≡ f → false ≡ is_design_of f d
    no_number None e = refl
    no_number (Some f) e =
        let n = known_number families d.family f e in absurd (h n.0 n.1)

-- the first and the last design of a box lie in it
pub first_in : (f : Family) (b : DesignBox) → IsBoxOf f b → IsIn (first_of b) b
first_in f b h = record { family = refl; low = low; high = high }
  where
    low : (a : AxisName) → (span_of a b).lo ≤ index_of a (first_of b)
    low Lat = omega arith
    low Lon = omega arith
    low Azimuth = omega arith
    low Scale = omega arith

    high : (a : AxisName) → index_of a (first_of b) ≤ (span_of a b).hi
    high Lat = h.some Lat
    high Lon = h.some Lon
    high Azimuth = h.some Azimuth
    high Scale = h.some Scale

pub last_in : (f : Family) (b : DesignBox) → IsBoxOf f b → IsIn (last_of b) b
last_in f b h = record { family = refl; low = low; high = high }
  where
    low : (a : AxisName) → (span_of a b).lo ≤ index_of a (last_of b)
    low Lat = h.some Lat
    low Lon = h.some Lon
    low Azimuth = h.some Azimuth
    low Scale = h.some Scale

    high : (a : AxisName) → index_of a (last_of b) ≤ (span_of a b).hi
    high Lat = omega arith
    high Lon = omega arith
    high Azimuth = omega arith
    high Scale = omega arith

pub firsts_are_in : FirstsAreIn
firsts_are_in families b h = first_in h.family b h.within

pub firsts_are_admitted : FirstsAreAdmitted
firsts_are_admitted families b h =
    boxes_are_admitted families b (first_of b) h (firsts_are_in families b h)

pub ruleset firsts = (firsts_are_in, firsts_are_admitted)

pub first_within : (f : Family) (b : DesignBox) → IsBoxOf f b → IsDesignOf f (first_of b)
first_within f b h = design_within f b (first_of b) h (first_in f b h)

pub last_within : (f : Family) (b : DesignBox) → IsBoxOf f b → IsDesignOf f (last_of b)
last_within f b h = design_within f b (last_of b) h (last_in f b h)

same_design : (d e : Design) → d.family ≡ e.family → d.lat ≡ e.lat → d.lon ≡ e.lon
    → d.azimuth ≡ e.azimuth → d.scale ≡ e.scale → d ≡ e
same_design d e f g h i j =
    ap (λ n. record d { family = n }) f
    ∙ ap (λ n. record d { family = e.family; lat = n }) g
    ∙ ap (λ n. record d { family = e.family; lat = e.lat; lon = n }) h
    ∙ ap (λ n. record d { family = e.family; lat = e.lat; lon = e.lon; azimuth = n }) i
    ∙ ap (λ n. record e { scale = n }) j

pub singles_have_one : (b : DesignBox) (d : Design) → IsSingle b → IsIn d b
    → (d ≡ first_of b) × (d ≡ last_of b)
singles_have_one b d s i =
    let lat : d.lat ≡ b.lat.lo = omega (arith, s.one Lat, i.low Lat, i.high Lat) in
    let lon : d.lon ≡ b.lon.lo = omega (arith, s.one Lon, i.low Lon, i.high Lon) in
    let azimuth : d.azimuth ≡ b.azimuth.lo =
    omega (arith, s.one Azimuth, i.low Azimuth, i.high Azimuth) in
    let scale : d.scale ≡ b.scale.lo = omega (arith, s.one Scale, i.low Scale, i.high Scale) in (
      same_design d (first_of b) i.family lat lon azimuth scale,
      same_design d (last_of b) i.family (lat ∙ s.one Lat) (lon ∙ s.one Lon)
          (azimuth ∙ s.one Azimuth) (scale ∙ s.one Scale),
    )
