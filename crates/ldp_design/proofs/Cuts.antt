-- The parts of a box, and the box without any.
use Rattle.std.proofs.Common.{◌≡◌, ℕ, suc, ◌+◌, ◌*◌, ◌<◌, ◌≤◌, ◌⊎◌, List, inl, inr, refl, sym, ◌∙◌}
use Rattle.std.proofs.Common.{ap, subst, arith}
use Rattle.std.proofs.Math.Nat.{mul-le-mul_left, add-mul, mul-add}
use Rattle.std.proofs.lemmas.Bool.{cases_lt}
use Rattle.ldp_design.specs.declared.axis.AxisName.{AxisName}
use Rattle.ldp_design.specs.declared.axis.AxisName.TheVariants.{Lat, Lon, Azimuth, Scale}
use Rattle.ldp_design.specs.declared.family.Family.{Family}
use Rattle.ldp_design.specs.declared.design.Design.{Design}
use Rattle.ldp_design.specs.declared.design_box.Span.{Span}
use Rattle.ldp_design.specs.declared.design_box.DesignBox.{DesignBox}
use Rattle.ldp_design.specs.Families.{family_of}
use Rattle.ldp_design.specs.Designs.{index_of, axis_of}
use Rattle.ldp_design.specs.Boxes.{span_of, with_span, size, span_width, IsIn, LiesIn}
use Rattle.ldp_design.specs.Laws.{width, AreParts}
use Rattle.ldp_design.specs.Splits.{IsCut, parts_at}

-- a changed span is the new one, and the others stay
with_span-cases : (x y : AxisName) (s : Span) (b : DesignBox)
    → ((x ≡ y) × (span_of y (with_span x s b) ≡ s)) ⊎ (span_of y (with_span x s b) ≡ span_of y b)
with_span-cases Lat Lat s b = inl (refl, refl)
with_span-cases Lat Lon s b = inr refl
with_span-cases Lat Azimuth s b = inr refl
with_span-cases Lat Scale s b = inr refl
with_span-cases Lon Lat s b = inr refl
with_span-cases Lon Lon s b = inl (refl, refl)
with_span-cases Lon Azimuth s b = inr refl
with_span-cases Lon Scale s b = inr refl
with_span-cases Azimuth Lat s b = inr refl
with_span-cases Azimuth Lon s b = inr refl
with_span-cases Azimuth Azimuth s b = inl (refl, refl)
with_span-cases Azimuth Scale s b = inr refl
with_span-cases Scale Lat s b = inr refl
with_span-cases Scale Lon s b = inr refl
with_span-cases Scale Azimuth s b = inr refl
with_span-cases Scale Scale s b = inl (refl, refl)

with_span-family : (x : AxisName) (s : Span) (b : DesignBox) → (with_span x s b).family ≡ b.family
with_span-family Lat s b = refl
with_span-family Lon s b = refl
with_span-family Azimuth s b = refl
with_span-family Scale s b = refl

-- a fact about each span, from the new span and from the old box
each_span : (P : AxisName → Span → Type 0) (x : AxisName) (s : Span) (b : DesignBox)
    → P x s → ((y : AxisName) → P y (span_of y b)) → (y : AxisName)
    → P y (span_of y (with_span x s b))
each_span P x s b here others y = elim (with_span-cases x y s b) [
  | inl c ↦ subst (λ t. P y t) (sym c.1) (subst (λ a. P a s) c.0 here)
  | inr e ↦ subst (λ t. P y t) (sym e) (others y)
]

-- a span within another, and not empty
pub record IsPart (part whole : Span) : Type 0 where
  pub low : whole.lo ≤ part.lo
  pub some : part.lo ≤ part.hi
  pub high : part.hi ≤ whole.hi

part_lies : (families : List Family) (b : DesignBox) (x : AxisName) (s : Span)
    → LiesIn families b → IsPart s (span_of x b) → LiesIn families (with_span x s b)
part_lies families b x s h p = record {
  family = h.family;
  found = ap (family_of families) (with_span-family x s b) ∙ h.found;
  within = record {
    some = each_span (λ y t. t.lo ≤ t.hi) x s b p.some h.within.some;
    within =
        each_span (λ y t. t.hi < (axis_of y h.family).count) x s b
        (omega (arith, p.high, h.within.within x)) h.within.within;
  };
}

part_in : (b : DesignBox) (x : AxisName) (s : Span) → IsPart s (span_of x b) → (d : Design)
    → IsIn d (with_span x s b) → IsIn d b
part_in b x s p d h = record {
  family = h.family ∙ with_span-family x s b;
  low = λ y. elim (with_span-cases x y s b) [
    | inl c ↦ omega (
      arith,
      h.low y,
      ap (λ t. t.lo) c.1,
      subst (λ a. (span_of a b).lo ≤ s.lo) c.0 p.low,
    )
    | inr e ↦ omega (arith, h.low y, ap (λ t. t.lo) e)
  ];
  high = λ y. elim (with_span-cases x y s b) [
    | inl c ↦ omega (
      arith,
      h.high y,
      ap (λ t. t.hi) c.1,
      subst (λ a. s.hi ≤ (span_of a b).hi) c.0 p.high,
    )
    | inr e ↦ omega (arith, h.high y, ap (λ t. t.hi) e)
  ];
}

in_part : (b : DesignBox) (x : AxisName) (s : Span) (d : Design) → IsIn d b → s.lo ≤ index_of x d
    → index_of x d ≤ s.hi → IsIn d (with_span x s b)
in_part b x s d h low high = record {
  family = h.family ∙ sym (with_span-family x s b);
  low = each_span (λ y t. t.lo ≤ index_of y d) x s b low h.low;
  high = each_span (λ y t. index_of y d ≤ t.hi) x s b high h.high;
}

narrower : (b : DesignBox) (x : AxisName) (s : Span) → span_width s < span_width (span_of x b)
    → width (with_span x s b) < width b
narrower b Lat s h = omega arith
narrower b Lon s h = omega arith
narrower b Azimuth s h = omega arith
narrower b Scale s h = omega arith

-- the sizes of two parts
four : ℕ → ℕ → ℕ → ℕ → ℕ
four p q r s = p * q * r * s

first_sum : (a b p q r : ℕ) → a * p * q * r + b * p * q * r ≡ (a + b) * p * q * r
first_sum a b p q r =
    sym (ap (λ t. t * q * r) (add-mul a b p) ∙ ap (λ t. t * r) (add-mul (a * p) (b * p) q)
    ∙ add-mul (a * p * q) (b * p * q) r)

second_sum : (a b p q r : ℕ) → p * a * q * r + p * b * q * r ≡ p * (a + b) * q * r
second_sum a b p q r =
    sym (ap (λ t. t * q * r) (mul-add p a b) ∙ ap (λ t. t * r) (add-mul (p * a) (p * b) q)
    ∙ add-mul (p * a * q) (p * b * q) r)

third_sum : (a b p q r : ℕ) → p * q * a * r + p * q * b * r ≡ p * q * (a + b) * r
third_sum a b p q r =
    sym (ap (λ t. t * r) (mul-add (p * q) a b) ∙ add-mul (p * q * a) (p * q * b) r)

fourth_sum : (a b p q r : ℕ) → p * q * r * a + p * q * r * b ≡ p * q * r * (a + b)
fourth_sum a b p q r = sym (mul-add (p * q * r) a b)

sizes_add : (b : DesignBox) (x : AxisName) (s t : Span)
    → suc (span_width s) + suc (span_width t) ≡ suc (span_width (span_of x b))
    → size (with_span x s b) + size (with_span x t b) ≡ size b
unfolding size
sizes_add b Lat s t e =
    first_sum _ _ _ _ _
    ∙ ap (λ n. n * suc (span_width b.lon) * suc (span_width b.azimuth) * suc (span_width b.scale)) e
sizes_add b Lon s t e =
    second_sum _ _ _ _ _
    ∙ ap (λ n. suc (span_width b.lat) * n * suc (span_width b.azimuth) * suc (span_width b.scale)) e
sizes_add b Azimuth s t e =
    third_sum _ _ _ _ _
    ∙ ap (λ n. suc (span_width b.lat) * suc (span_width b.lon) * n * suc (span_width b.scale)) e
sizes_add b Scale s t e =
    fourth_sum _ _ _ _ _
    ∙ ap (λ n. suc (span_width b.lat) * suc (span_width b.lon) * suc (span_width b.azimuth) * n) e

product-positive : (a b c d : ℕ) → 0 < suc a * suc b * suc c * suc d
product-positive a b c d =
    let two : suc a * 1 ≤ suc a * suc b = mul-le-mul_left (suc a) (omega arith) in
    let three : suc a * suc b * 1 ≤ suc a * suc b * suc c =
    mul-le-mul_left (suc a * suc b) (omega arith) in
    let four : suc a * suc b * suc c * 1 ≤ suc a * suc b * suc c * suc d =
    mul-le-mul_left (suc a * suc b * suc c) (omega arith) in
    omega arith

size-positive : (b : DesignBox) → 0 < size b
unfolding size
size-positive b =
    product-positive (span_width b.lat) (span_width b.lon) (span_width b.azimuth)
    (span_width b.scale)

covered : (b : DesignBox) (x : AxisName) (at : ℕ) (d : Design) → IsIn d b
    → (at < index_of x d) ⊎ (index_of x d ≤ at)
    → IsIn d (parts_at x at b).0 ⊎ IsIn d (parts_at x at b).1
covered b x at d h (inl above) = inr (in_part b x _ d h (omega arith) (h.high x))
covered b x at d h (inr below) = inl (in_part b x _ d h (h.low x) below)

pub cuts_part : (families : List Family) (b : DesignBox) (x : AxisName) (at : ℕ)
    → LiesIn families b → IsCut x at b → AreParts families b (parts_at x at b).0 (parts_at x at b).1
cuts_part families b x at h c =
    let low : Span = record { lo = (span_of x b).lo; hi = at } in
    let high : Span = record { lo = at + 1; hi = (span_of x b).hi } in
    let low_part : IsPart low (span_of x b) =
    record { low = omega arith; some = c.low; high = omega (arith, c.high) } in
    let high_part : IsPart high (span_of x b) =
    record { low = omega (arith, c.low); some = omega (arith, c.high); high = omega arith } in
    let sizes : size (with_span x low b) + size (with_span x high b) ≡ size b =
    sizes_add b x low high (omega (arith, c.low, c.high)) in
    record {
      low_lies = part_lies families b x low h low_part;
      high_lies = part_lies families b x high h high_part;
      low_family = with_span-family x low b;
      high_family = with_span-family x high b;
      low_narrower = narrower b x low (omega (arith, c.low, c.high));
      high_narrower = narrower b x high (omega (arith, c.low, c.high));
      low_smaller = omega (arith, sizes, size-positive (with_span x high b));
      high_smaller = omega (arith, sizes, size-positive (with_span x low b));
      sizes = sizes;
      covered = λ d i. covered b x at d i (cases_lt at (index_of x d));
      low_in = part_in b x low low_part;
      high_in = part_in b x high high_part;
    }
