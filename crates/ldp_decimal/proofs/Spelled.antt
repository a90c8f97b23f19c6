-- A written text is in the number grammar, and its number is the one that was written.
use Rattle.std.proofs.Common.{◌≡◌, ℕ, ◌+◌, ◌*◌, ◌/◌, ◌%◌, ◌^◌, ◌<◌, ◌≤◌, ◌==◌, nat_le, ℤ, pos}
use Rattle.std.proofs.Common.{negsuc, unsigned_abs, Bool, true, false, List, [], ◌∷◌, ◌++◌, length}
use Rattle.std.proofs.Common.{length-append, take, drop, append_assoc, add-zero, replicate, Option}
use Rattle.std.proofs.Common.{Some, option_and_then, Result, Ok, refl, ap, sym, ◌∙◌, arith}
use Rattle.std.proofs.lemmas.Bool.Decides.{nat_tests}
use Rattle.std.proofs.lemmas.Fmt.{length-decimal-le, decimal_nonempty}
use Rattle.std.proofs.lemmas.List.{append-nil}
use Rattle.std.proofs.Math.Seq.{take-append_seam, drop-append_seam}
use Rattle.std.proofs.Math.Nat.{div-le_self, mul_comm, one-le-pow}
use Rattle.std.proofs.lemmas.Nat.{pow-add, div-add-mod'}
use Rattle.std.specs.List.{prefix_len}
use Rattle.std.specs.Char.{is_ascii_digit}
use Rattle.ldp_decimal.specs.declared.fault.NumFault.{NumFault}
use Rattle.ldp_decimal.specs.Grammar.{AreDigits, Parts, parts, parts_of, signed, digits}
use Rattle.ldp_decimal.specs.Grammar.{behind_point, exponent, with_exponent, value, value_after}
use Rattle.ldp_decimal.specs.Fraction.{fraction_of, magnitude, with_sign}
use Rattle.ldp_decimal.specs.Reading.{decimal_of, is_below_zero}
use Rattle.ldp_decimal.specs.Writing.{sign, pointed, without_zeros, whole_digits, further_digits}
use Rattle.ldp_decimal.specs.Writing.{decimal_text, trimmed_text}
use Rattle.ldp_decimal.proofs.Digits.{value_append, value_split}
use Rattle.ldp_decimal.proofs.Rounding.{rounded_exact}
use Rattle.ldp_decimal.proofs.Limited.{read_some}
use Rattle.ldp_decimal.proofs.Numerals.{decimal_digits, decimal_value_is, zeros_shift, zeros_length}
use Rattle.ldp_decimal.proofs.Numerals.{padded_value, padded_length, padded_digits, kept_zeros}
use Rattle.ldp_decimal.proofs.Numerals.{kept_digits}

-- no digit comes first
abbrev pub NoDigitFirst : List ℕ → Type 0
NoDigitFirst [] = Unit {0}
NoDigitFirst (b ∷ bs) = is_ascii_digit b ≡ false

pub digit_yes : (d : ℕ) → (48 ≤ d) × (d ≤ 57) → is_ascii_digit d ≡ true
digit_yes d h = grind (arith, nat_tests)

none_first : (bs : List ℕ) → NoDigitFirst bs → prefix_len is_ascii_digit bs ≡ 0
none_first [] h = refl
none_first (b ∷ bs) h = rw h refl

prefix_is : (ds bs : List ℕ) → AreDigits ds → NoDigitFirst bs
    → prefix_len is_ascii_digit (ds ++ bs) ≡ length ds
prefix_is [] bs h k = none_first bs k
prefix_is (d ∷ ds) bs h k = rw (digit_yes d h.0, prefix_is ds bs h.1 k) (omega arith)

pub digits_is : (ds bs : List ℕ) → AreDigits ds → NoDigitFirst bs → digits (ds ++ bs) ≡ (ds, bs)
digits_is ds bs h k =
    let pair : ℕ → List ℕ × List ℕ = λ n. (take n (ds ++ bs), drop n (ds ++ bs)) in
    let front : take (length ds) (ds ++ bs) ≡ ds = take-append_seam ds bs in
    let back : drop (length ds) (ds ++ bs) ≡ bs = drop-append_seam ds bs in
    ap pair (prefix_is ds bs h k) ∙ rw (front, back) refl

point_stops : (qs : List ℕ) → NoDigitFirst (pointed qs)
point_stops [] = tt
point_stops (q ∷ qs) = refl

point_is : (qs : List ℕ) → AreDigits qs → behind_point (pointed qs) ≡ (qs, [])
point_is [] h = refl
point_is (q ∷ qs) h =
    let whole : (q ∷ qs) ++ [] ≡ q ∷ qs = append-nil (q ∷ qs) in
    ap digits (sym whole) ∙ digits_is (q ∷ qs) [] h tt

signed_is : (z : ℤ) (w : ℕ) (rest : List ℕ) → (48 ≤ w) × (w ≤ 57)
    → signed (sign z ++ w ∷ rest) ≡ (is_below_zero z, w ∷ rest)
signed_is (pos n) w rest h =
    let minus : (w == 45) ≡ false = grind (arith, nat_tests) in
    let plus : (w == 43) ≡ false = grind (arith, nat_tests) in
    rw (minus, plus) refl
signed_is (negsuc n) w rest h = refl

abbrev spelled : ℤ → List ℕ → List ℕ → List ℕ
spelled z ws qs = sign z ++ (ws ++ pointed qs)

abbrev parts_spelled : ℤ → List ℕ → List ℕ → Parts
parts_spelled z ws qs =
    record { negative = is_below_zero z; whole = ws; fraction = qs; raise = 0; lower = 0 }

parts_of_is : (z : ℤ) (w : ℕ) (ws qs : List ℕ) → AreDigits (w ∷ ws) → AreDigits qs
    → parts_of (spelled z (w ∷ ws) qs) ≡ Some (parts_spelled z (w ∷ ws) qs)
unfolding parts_of exponent with_exponent
parts_of_is z w ws qs h k =
    let negative : Bool = is_below_zero z in
    let with_fraction : List ℕ × List ℕ → Option Parts =
    λ f. option_and_then (with_exponent negative (w ∷ ws) f.0) (exponent f.1) in
    let with_whole : List ℕ × List ℕ → Option Parts =
    λ d. option_and_then (with_exponent negative d.0 (behind_point d.1).0)
    (exponent (behind_point d.1).1) in
    let with_signed : Bool × List ℕ → Option Parts =
    λ s. option_and_then (with_exponent s.0 (digits s.1).0 (behind_point (digits s.1).1).0)
    (exponent (behind_point (digits s.1).1).1) in
    let yes : nat_le 1 (length (w ∷ ws) + length qs) ≡ true = grind (arith, nat_tests) in
    let end : with_fraction (qs, []) ≡ Some (parts_spelled z (w ∷ ws) qs) = rw yes refl in
    ap with_signed (signed_is z w (ws ++ pointed qs) h.0)
    ∙ (ap with_whole (digits_is (w ∷ ws) (pointed qs) h (point_stops qs))
    ∙ (ap with_fraction (point_is qs k) ∙ end))

sign_short : (z : ℤ) → length (sign z) ≤ 1
sign_short (pos n) = omega arith
sign_short (negsuc n) = omega arith

pointed_short : (qs : List ℕ) → length (pointed qs) ≤ length qs + 1
pointed_short [] = omega arith
pointed_short (q ∷ qs) = omega arith

parts_is : (z : ℤ) (ws qs : List ℕ) → AreDigits ws → AreDigits qs → 0 < length ws
    → length ws + length qs ≤ 60 → parts (spelled z ws qs) ≡ Some (parts_spelled z ws qs)
unfolding parts
parts_is z [] qs h k some few = absurd (omega arith)
parts_is z (w ∷ ws) qs h k some few =
    let size : length (spelled z (w ∷ ws) qs) ≤ 64 =
    omega (
      arith,
      sign_short z,
      pointed_short qs,
      length-append (sign z) ((w ∷ ws) ++ pointed qs),
      length-append (w ∷ ws) (pointed qs),
    ) in
    let yes : nat_le (length (spelled z (w ∷ ws) qs)) 64 ≡ true = grind (arith, nat_tests) in
    rw yes (parts_of_is z w ws qs h k)

sign_back : (z : ℤ) → with_sign (is_below_zero z) (unsigned_abs z) ≡ z
sign_back (pos n) = refl
sign_back (negsuc n) = refl

-- the digits of |z| / 10^k, written behind a sign with a point among them, are read as z with k
-- more places
reads_back : (places limit : ℕ) (z : ℤ) (ws qs : List ℕ) (k : ℕ) → AreDigits ws → AreDigits qs
    → 0 < length ws → length ws + length qs ≤ 60
    → length qs + k ≡ places → value (ws ++ qs) * 10 ^ k ≡ unsigned_abs z → unsigned_abs z ≤ limit
    → decimal_of places limit (spelled z ws qs) ≡ Ok z
reads_back places limit z ws qs k h d some few left number small =
    let power : 10 ^ places ≡ 10 ^ k * 10 ^ length qs =
    ap (λ n. 10 ^ n) (sym left)
    ∙ (pow-add 10 (length qs) k ∙ mul_comm (10 ^ length qs) (10 ^ k)) in
    let top : value (ws ++ qs) * 10 ^ 0 * 10 ^ places ≡ unsigned_abs z * 10 ^ length qs =
    rw power (omega (arith, ap (λ n. n * 10 ^ length qs) number)) in
    let whole : unsigned_abs z ≡ magnitude places (fraction_of (parts_spelled z ws qs)) =
    sym (rw (top, add-zero (length qs))
    (rounded_exact (unsigned_abs z) (10 ^ length qs) (one-le-pow (length qs) 10 (omega arith))))
    in
    let answer : ℤ → Result ℤ NumFault = λ y. Ok y in
    read_some places limit (spelled z ws qs) (parts_spelled z ws qs) (unsigned_abs z)
    (parts_is z ws qs h d some few) whole small ∙ ap answer (sign_back z)

-- a text of 20 digits and 15 more is short
fits : (places : ℕ) (z : ℤ) → places ≤ 15 → unsigned_abs z ≤ 10000000000000000000
    → unsigned_abs z / 10 ^ places < 2 ^ 64
fits places z few small =
    let below : unsigned_abs z / 10 ^ places ≤ unsigned_abs z =
    div-le_self (unsigned_abs z) (10 ^ places) in
    omega arith

-- the digits of both parts stand for the whole magnitude
both_parts : (places n : ℕ) → places ≤ 15 → n / 10 ^ places < 2 ^ 64
    → value (whole_digits places n ++ further_digits places n) ≡ n
both_parts places n few small =
    let positive : 1 ≤ 10 ^ places = one-le-pow places 10 (omega arith) in
    let below : n % 10 ^ places < 10 ^ places = omega arith in
    let size : length (further_digits places n) ≡ places =
    padded_length places (n % 10 ^ places) few below in
    let split : value_after (n / 10 ^ places) (further_digits places n)
    ≡ n / 10 ^ places * 10 ^ length (further_digits places n)
    + value (further_digits places n) =
    value_split (n / 10 ^ places) (further_digits places n) in
    value_append 0 (whole_digits places n) (further_digits places n)
    ∙ (ap (λ m. value_after m (further_digits places n)) (decimal_value_is (n / 10 ^ places) small)
    ∙ (split ∙ rw (size, padded_value places (n % 10 ^ places) few below)
    (div-add-mod' n (10 ^ places))))

-- the three facts on the whole part that both texts need
whole_is : (places : ℕ) (z : ℤ) → places ≤ 15 → unsigned_abs z ≤ 10000000000000000000
    → AreDigits (whole_digits places (unsigned_abs z))
    × (0 < length (whole_digits places (unsigned_abs z)))
    × (length (whole_digits places (unsigned_abs z)) ≤ 20)
whole_is places z few small =
    let fit = fits places z few small in (
      decimal_digits _ fit,
      decimal_nonempty _ fit,
      length-decimal-le 20 (unsigned_abs z / 10 ^ places) (omega arith) (omega arith) fit,
    )

further_size : (places n : ℕ) → places ≤ 15 → length (further_digits places n) ≡ places
further_size places n few =
    let positive : 1 ≤ 10 ^ places = one-le-pow places 10 (omega arith) in
    padded_length places (n % 10 ^ places) few (omega arith)

further_are : (places n : ℕ) → places ≤ 15 → AreDigits (further_digits places n)
further_are places n few =
    let positive : 1 ≤ 10 ^ places = one-le-pow places 10 (omega arith) in
    padded_digits places (n % 10 ^ places) few (omega arith)

pub decimal_is_read : (places limit : ℕ) (z : ℤ) → places ≤ 15
    → unsigned_abs z ≤ 10000000000000000000 → unsigned_abs z ≤ limit
    → decimal_of places limit (decimal_text places z) ≡ Ok z
unfolding decimal_text
decimal_is_read places limit z few small within =
    let n : ℕ = unsigned_abs z in
    let whole = whole_is places z few small in
    let size : length (further_digits places (unsigned_abs z)) ≡ places =
    further_size places (unsigned_abs z) few in
    let number : value
    (whole_digits places (unsigned_abs z) ++ further_digits places (unsigned_abs z)) * 10 ^ 0
    ≡ unsigned_abs z =
    omega (arith, both_parts places (unsigned_abs z) few (fits places z few small)) in
    reads_back places limit z (whole_digits places (unsigned_abs z))
    (further_digits places (unsigned_abs z)) 0 whole.0 (further_are places (unsigned_abs z) few)
    whole.1
    (omega arith) (omega arith) number within

pub trimmed_is_read : (places limit : ℕ) (z : ℤ) → places ≤ 15
    → unsigned_abs z ≤ 10000000000000000000 → unsigned_abs z ≤ limit
    → decimal_of places limit (trimmed_text places z) ≡ Ok z
unfolding trimmed_text
trimmed_is_read places limit z few small within =
    let ws : List ℕ = whole_digits places (unsigned_abs z) in
    let all : List ℕ = further_digits places (unsigned_abs z) in
    let whole = whole_is places z few small in
    let size : length (further_digits places (unsigned_abs z)) ≡ places =
    further_size places (unsigned_abs z) few in
    let zeros = kept_zeros (further_digits places (unsigned_abs z)) in
    let left : length (without_zeros (further_digits places (unsigned_abs z))) + zeros.0 ≡ places =
    omega (
      arith,
      size,
      ap (λ (ds : List ℕ). length ds) zeros.1,
      length-append (without_zeros (further_digits places (unsigned_abs z)))
          (replicate zeros.0 48),
      zeros_length zeros.0,
    ) in
    let number : value (ws ++ without_zeros all) * 10 ^ zeros.0 ≡ unsigned_abs z =
    sym (zeros_shift (value (ws ++ without_zeros all)) zeros.0)
    ∙ (sym (value_append 0 (ws ++ without_zeros all) (replicate zeros.0 48))
    ∙ (ap value (append_assoc ws (without_zeros all) (replicate zeros.0 48))
    ∙ (ap (λ ds. value (ws ++ ds)) (sym zeros.1) ∙ both_parts places (unsigned_abs z) few
    (fits places z few small)))) in
    reads_back places limit z ws (without_zeros all) zeros.0 whole.0
    (kept_digits all (further_are places (unsigned_abs z) few)) whole.1
    (omega arith) left number within
