-- Bounds of sums of weights and heights, and the mean within them.
use Rattle.std.proofs.Common.{◌≡◌, ℕ, suc, ◌*◌, ◌/◌, ◌^◌, ◌<◌, ◌≤◌, true, ℤ, pos, negsuc, neg_ℤ}
use Rattle.std.proofs.Common.{◌*ℤ◌, ◌≤ℤ◌, arith, refl, ap, ◌∙◌, Some, to_z, of_z, FitsSigned}
use Rattle.std.proofs.Common.{unsigned_abs}
use Rattle.std.specs.Ordering.{int_eq}
use Rattle.std.proofs.lemmas.Bool.Decides.{Decides-int_eq}
use Rattle.std.specs.Int.{w128, w32, int_div_euclid}
use Rattle.std.proofs.lemmas.Int.{ints, fits_signed_mul, fits_signed_from_abs, to_z-of_z}
use Rattle.std.proofs.Math.Nat.{mul-le-mul, mul-le-mul_left, div-lt_iff_lt-mul}
use Rattle.std.proofs.Math.IntN.{pos-*ℤ-pos, pos-*ℤ-negsuc}
use Rattle.ldp_num.specs.Plain.{floor_div}
use Rattle.ldp_quantity.specs.Between.{IsBetween}
use Rattle.ldp_heights.specs.Grid.{metres}
use Rattle.ldp_alignment.specs.Heights.{mean}
use Rattle.ldp_alignment.specs.Bounded.{AreBounded, most_weight}

-- the share of a place with a height
pub bounded_one : (w : ℕ) (h weights heights : ℤ) → w ≤ most_weight
    → IsBetween (neg_ℤ (metres 100_000)) (metres 100_000) h → weights ≡ pos w
    → heights ≡ pos w *ℤ h → AreBounded 1 record { weights = weights; heights = heights }
bounded_one w (pos n) weights heights few range e f =
    let most : w * n ≤ w * 100_000_000 = mul-le-mul_left {m = n} {n = 100_000_000} w (omega (arith, ints, range.1)) in
    let is : heights ≡ pos (w * n) = f ∙ pos-*ℤ-pos w n in
    record {
      some = omega (arith, ints, e);
      few = omega (arith, ints, e);
      low = omega (arith, ints, e, is, most);
      high = omega (arith, ints, e, is, most);
    }
bounded_one w (negsuc n) weights heights few range e f =
    let most : w * suc n ≤ w * 100_000_000 = mul-le-mul_left {m = suc n} {n = 100_000_000} w (omega (arith, ints, range.0)) in
    let is : heights ≡ neg_ℤ (pos (w * suc n)) = f ∙ pos-*ℤ-negsuc w n in
    record {
      some = omega (arith, ints, e);
      few = omega (arith, ints, e);
      low = omega (arith, ints, e, is, most);
      high = omega (arith, ints, e, is, most);
    }

-- the mean lies where the heights do
pub mean_between : (w : ℕ) (h : ℤ) → 0 < w → neg_ℤ (pos 100_000_000 *ℤ pos w) ≤ℤ h
    → h ≤ℤ (pos 100_000_000 *ℤ pos w)
    → IsBetween (neg_ℤ (metres 100_000)) (metres 100_000) (floor_div h w)
mean_between w (pos a) some low high =
    let less : a < 100_000_001 * w = omega (arith, ints, high, some) in
    let few : a / w < 100_000_001 = (div-lt_iff_lt-mul {k = w} {x = a} {y = 100_000_001} some).1 less in
    (omega (arith, ints), omega (arith, ints, few))
mean_between w (negsuc a) some low high =
    let less : a < 100_000_000 * w = omega (arith, ints, low, some) in
    let few : a / w < 100_000_000 = (div-lt_iff_lt-mul {k = w} {x = a} {y = 100_000_000} some).1 less in
    (omega (arith, ints, few), omega (arith, ints))

pub mean_told : (w : ℕ) (weights heights : ℤ) → weights ≡ pos w
    → Some (floor_div heights w) ≡ mean w weights heights
mean_told w weights heights e =
    let same : int_eq weights (pos w) ≡ true = (Decides-int_eq weights (pos w)).1 e in
    rw same refl

-- Casts that lose nothing.

height_abs : (h : ℤ) → IsBetween (neg_ℤ (metres 100_000)) (metres 100_000) h
    → unsigned_abs h ≤ 100_000_000
height_abs (pos n) range = omega (arith, ints, range.1)
height_abs (negsuc n) range = omega (arith, ints, range.0)

pub product_back : (w : ℕ) (h : ℤ) → w ≤ most_weight
    → IsBetween (neg_ℤ (metres 100_000)) (metres 100_000) h
    → to_z w128 (of_z w128 (pos w *ℤ h)) ≡ pos w *ℤ h
product_back w h few range =
    to_z-of_z w128 (pos w *ℤ h)
    (fits_signed_mul w128 (pos w) h (10 ^ 26) 100_000_000 few (height_abs h range) (omega arith))

fits_wide : (h : ℤ) → IsBetween (neg_ℤ (metres 100_000)) (metres 100_000) h → FitsSigned w128 h
fits_wide h range =
    let small = height_abs h range in fits_signed_from_abs w128 h (omega arith)

fits_narrow : (h : ℤ) → IsBetween (neg_ℤ (metres 100_000)) (metres 100_000) h → FitsSigned w32 h
fits_narrow h range =
    let small = height_abs h range in fits_signed_from_abs w32 h (omega arith)

pub height_fits : (h : ℤ) → IsBetween (neg_ℤ (metres 100_000)) (metres 100_000) h
    → FitsSigned w32 (to_z w128 (of_z w128 h))
height_fits h range = rw (to_z-of_z w128 h (fits_wide h range)) (fits_narrow h range)

pub height_back : (h : ℤ) → IsBetween (neg_ℤ (metres 100_000)) (metres 100_000) h
    → to_z w32 (of_z w32 (to_z w128 (of_z w128 h))) ≡ h
height_back h range =
    ap (λ z. to_z w32 (of_z w32 z)) (to_z-of_z w128 h (fits_wide h range))
    ∙ to_z-of_z w32 h (fits_narrow h range)

square : (s : ℕ) → s ≤ 10_000_000_000_000 → s * s ≤ 10 ^ 26
square s few = mul-le-mul few few

spacing_back : (s : ℕ) (n : ℤ) → s ≤ 10_000_000_000_000 → n ≡ pos s → to_z w128 (of_z w128 n) ≡ pos s
spacing_back s n few is =
    ap (λ z. to_z w128 (of_z w128 z)) is
    ∙ to_z-of_z w128 (pos s) (fits_signed_from_abs w128 (pos s) (omega arith))

pub whole_back : (s : ℕ) (m n : ℤ) → s ≤ 10_000_000_000_000 → m ≡ pos s → n ≡ pos s
    → to_z w128 (of_z w128 (to_z w128 (of_z w128 m) *ℤ to_z w128 (of_z w128 n))) ≡ pos (s * s)
whole_back s m n few p q =
    let small = square s few in
    ap (λ z. to_z w128 (of_z w128 (z *ℤ to_z w128 (of_z w128 n)))) (spacing_back s m few p)
    ∙ ap (λ z. to_z w128 (of_z w128 (pos s *ℤ z))) (spacing_back s n few q)
    ∙ ap (λ z. to_z w128 (of_z w128 z)) (pos-*ℤ-pos s s)
    ∙ to_z-of_z w128 (pos (s * s)) (fits_signed_from_abs w128 (pos (s * s)) (omega arith))

pub weights_back : (z : ℤ) → pos 0 ≤ℤ z → z ≤ℤ pos (4 * 10 ^ 26) → to_z w128 (of_z w128 z) ≡ z
weights_back (pos n) some few =
    let small : n ≤ 4 * 10 ^ 26 = omega (arith, ints, few) in
    to_z-of_z w128 (pos n) (fits_signed_from_abs w128 (pos n) (omega arith))
weights_back (negsuc n) some few = absurd (omega (arith, ints, some))

pub heights_back : (z w : ℤ) → w ≤ℤ pos (4 * 10 ^ 26) → neg_ℤ (pos 100_000_000 *ℤ w) ≤ℤ z
    → z ≤ℤ (pos 100_000_000 *ℤ w) → to_z w128 (of_z w128 z) ≡ z
heights_back (pos n) w few low high =
    let small : n ≤ 4 * 10 ^ 34 = omega (arith, ints, few, high) in
    to_z-of_z w128 (pos n) (fits_signed_from_abs w128 (pos n) (omega arith))
heights_back (negsuc n) w few low high =
    let small : suc n ≤ 4 * 10 ^ 34 = omega (arith, ints, few, low) in
    to_z-of_z w128 (negsuc n) (fits_signed_from_abs w128 (negsuc n) (omega arith))

pub euclid_floor : (h : ℤ) (n : ℕ) → int_div_euclid h (pos n) ≡ floor_div h n
euclid_floor (pos a) n = refl
euclid_floor (negsuc a) n = refl

pub mean_in_range : (s : ℕ) (weights heights q : ℤ) → 1 ≤ s → weights ≡ pos (s * s)
    → neg_ℤ (pos 100_000_000 *ℤ weights) ≤ℤ heights
    → heights ≤ℤ (pos 100_000_000 *ℤ weights) → q ≡ floor_div heights (s * s)
    → IsBetween (neg_ℤ (metres 100_000)) (metres 100_000) q
mean_in_range s weights heights q some e low high is =
    let some_whole : 1 * 1 ≤ s * s = mul-le-mul some some in
    rw is (mean_between (s * s) heights (omega arith) (rw e at low) (rw e at high))
