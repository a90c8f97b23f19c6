-- Written numbers and hashes are plain words.
use Rattle.std.proofs.Common.{◌≡◌, ℕ, zero, suc, ◌-◌, ◌/◌, ◌%◌, ◌^◌, ◌<◌, ◌≤◌, ◌==◌}
use Rattle.std.proofs.Common.{nat_lt, ℤ, pos, negsuc, unsigned_abs, Bool, true, false, List, []}
use Rattle.std.proofs.Common.{◌∷◌, ◌++◌, length, replicate, decimal, refl, ◌∙◌}
use Rattle.std.proofs.Common.{arith, rules, if◌then◌else◌}
use Rattle.std.specs.Prelude.{slice_index}
use Rattle.std.proofs.lemmas.Bool.Decides.{nat_tests}
use Rattle.std.proofs.lemmas.List.Folds.{list_all-append}
use Rattle.std.proofs.lemmas.List.Sums.{AllPass-from_list_all}
use Rattle.std.proofs.lemmas.Str.Parse.{IsNumeralModel, numerals_by_fold}
use Rattle.std.proofs.lemmas.Fmt.{digits_decimal}
use Rattle.std.proofs.Math.Nat.{div-le_self, one-le-pow, pow-le-pow_right}
use Rattle.hex.specs.Hex.{encode_lower, encode_with, lower_digits, IsBytes}
use Rattle.ldp_num.specs.Number.{limit}
use Rattle.ldp_decimal.specs.Grammar.{AreDigits, value_after}
use Rattle.ldp_decimal.specs.Writing.{sign, padded, pointed, without_zeros, onto_kept, whole_digits}
use Rattle.ldp_decimal.specs.Writing.{further_digits, decimal_text, trimmed_text}
use Rattle.ldp_spelling.specs.Pieces.{is_plain}
use Rattle.ldp_spelling.proofs.Pieces.{both}

own : IsNumeralModel AreDigits (value_after 0)
own = numerals_by_fold AreDigits (search rules) value_after (search rules)

digit_plain : (d : ℕ) → (48 ≤ d) × (d ≤ 57) → nat_lt 32 d ≡ true
digit_plain d h = grind (arith, nat_tests)

digits_plain : (ds : List ℕ) → AreDigits ds → is_plain ds ≡ true
digits_plain [] h = refl
digits_plain (d ∷ ds) h = rw (digit_plain d h.0) (digits_plain ds h.1)

pub plain_decimal : (n : ℕ) → n ≤ limit → is_plain (decimal n) ≡ true
plain_decimal n h = digits_plain (decimal n) (digits_decimal own n (omega arith))

plain_append : (a b : List ℕ) → is_plain a ≡ true → is_plain b ≡ true → is_plain (a ++ b) ≡ true
plain_append a b h k = list_all-append (λ byte. nat_lt 32 byte) a b ∙ rw (h, k) refl

plain_sign : (z : ℤ) → is_plain (sign z) ≡ true
plain_sign (pos n) = refl
plain_sign (negsuc n) = refl

plain_zeros : (k : ℕ) → is_plain (replicate k 48) ≡ true
plain_zeros zero = refl
plain_zeros (suc k) = plain_zeros k

plain_padded : (places n : ℕ) → n ≤ limit → is_plain (padded places n) ≡ true
plain_padded zero n h = refl
plain_padded (suc p) n h =
    plain_append (replicate (suc p - length (decimal n)) 48) (decimal n)
    (plain_zeros (suc p - length (decimal n))) (plain_decimal n h)

plain_if : (t : Bool) (d : ℕ) → nat_lt 32 d ≡ true → is_plain (if t then [] else d ∷ []) ≡ true
plain_if true d h = refl
plain_if false d h = rw h refl

plain_onto : (d : ℕ) (ds : List ℕ) → nat_lt 32 d ≡ true → is_plain ds ≡ true
    → is_plain (onto_kept d ds) ≡ true
plain_onto d [] h k = plain_if (d == 48) d h
plain_onto d (e ∷ es) h k = rw h k

plain_kept : (ds : List ℕ) → is_plain ds ≡ true → is_plain (without_zeros ds) ≡ true
plain_kept [] h = refl
plain_kept (d ∷ ds) h = let two = both (nat_lt 32 d) (is_plain ds) h in
    plain_onto d (without_zeros ds) two.0 (plain_kept ds two.1)

plain_pointed : (ds : List ℕ) → is_plain ds ≡ true → is_plain (pointed ds) ≡ true
plain_pointed [] h = refl
plain_pointed (d ∷ ds) h = h

whole_small : (places n : ℕ) → n ≤ limit → n / 10 ^ places ≤ limit
whole_small places n h = let below : n / 10 ^ places ≤ n = div-le_self n (10 ^ places) in
    omega arith

further_small : (places n : ℕ) → places ≤ 15 → n % 10 ^ places ≤ limit
further_small places n few =
    let positive : 1 ≤ 10 ^ places = one-le-pow places 10 (omega arith) in
    let wide : 10 ^ places ≤ 10 ^ 15 = pow-le-pow_right (omega arith) few in
    omega arith

pub plain_fixed : (places : ℕ) (z : ℤ) → places ≤ 15 → unsigned_abs z ≤ limit
    → is_plain (decimal_text places z) ≡ true
unfolding decimal_text
plain_fixed places z few small =
    let n : ℕ = unsigned_abs z in
    plain_append (sign z) (whole_digits places n ++ pointed (further_digits places n))
    (plain_sign z)
    (plain_append (whole_digits places n) (pointed (further_digits places n))
    (plain_decimal (n / 10 ^ places) (whole_small places n small))
    (plain_pointed (further_digits places n)
    (plain_padded places (n % 10 ^ places) (further_small places n few))))

pub plain_trimmed : (places : ℕ) (z : ℤ) → places ≤ 15 → unsigned_abs z ≤ limit
    → is_plain (trimmed_text places z) ≡ true
unfolding trimmed_text
plain_trimmed places z few small =
    let n : ℕ = unsigned_abs z in
    plain_append (sign z)
    (whole_digits places n ++ pointed (without_zeros (further_digits places n))) (plain_sign z)
    (plain_append (whole_digits places n) (pointed (without_zeros (further_digits places n)))
    (plain_decimal (n / 10 ^ places) (whole_small places n small))
    (plain_pointed (without_zeros (further_digits places n))
    (plain_kept (further_digits places n)
    (plain_padded places (n % 10 ^ places) (further_small places n few)))))

letter_plain : (d : ℕ) → d < 16 → nat_lt 32 (slice_index lower_digits d) ≡ true
letter_plain d h = AllPass-from_list_all (λ byte. nat_lt 32 byte) lower_digits refl d 0 h

letters_plain : (bytes : List ℕ) → IsBytes bytes → is_plain (encode_with lower_digits bytes) ≡ true
unfolding encode_with
letters_plain [] h = refl
letters_plain (b ∷ bs) h =
    let byte : b < 256 = h 0 in
    rw (letter_plain (b / 16) (omega arith), letter_plain (b % 16) (omega arith))
    (letters_plain bs (λ i. h (suc i)))

pub plain_hash : (bytes : List ℕ) → IsBytes bytes → is_plain (encode_lower bytes) ≡ true
plain_hash bytes h = letters_plain bytes h
