-- The digits that the writers write: what they stand for, how many they are, and that they are
-- digits.
use Rattle.std.proofs.Common.{◌≡◌, ◌≢◌, ℕ, zero, suc, ◌+◌, ◌-◌, ◌*◌, ◌^◌, ◌<◌, ◌≤◌, ◌==◌, Bool}
use Rattle.std.proofs.Common.{true, false, List, [], ◌∷◌, ◌++◌, length, length-append, lit≤, get_or}
use Rattle.std.proofs.Common.{take, replicate, decimal, refl, ap, sym, ◌∙◌, arith, rules}
use Rattle.std.proofs.Common.{if◌then◌else◌}
use Rattle.std.proofs.lemmas.Bool.Decides.{nat_tests}
use Rattle.std.proofs.lemmas.Str.Parse.{IsNumeralModel, numerals_by_fold}
use Rattle.std.proofs.lemmas.Fmt.{digits_decimal, digits_value-decimal, decimal-digits_value}
use Rattle.std.proofs.lemmas.Fmt.{length-decimal-le}
use Rattle.std.proofs.Math.Nat.{pow-le-pow_right}
use Rattle.std.proofs.Math.Seq.{take-suc}
use Rattle.std.proofs.lemmas.List.{length-replicate}
use Rattle.ldp_decimal.specs.Grammar.{AreDigits, value, value_after}
use Rattle.ldp_decimal.specs.Writing.{padded, without_zeros, onto_kept}
use Rattle.ldp_decimal.proofs.Digits.{value_append, value_split, digits_append}

own : IsNumeralModel AreDigits (value_after 0)
own = numerals_by_fold AreDigits (search rules) value_after (search rules)

pub decimal_digits : (n : ℕ) → n < 2 ^ 64 → AreDigits (decimal n)
decimal_digits n h = digits_decimal own n h

pub decimal_value_is : (n : ℕ) → n < 2 ^ 64 → value (decimal n) ≡ n
decimal_value_is n h = digits_value-decimal own n h

zeros_digits : (k : ℕ) → AreDigits (replicate k 48)
zeros_digits zero = tt
zeros_digits (suc k) = ((lit≤ tt, lit≤ tt), zeros_digits k)

zeros_value : (k : ℕ) → value (replicate k 48) ≡ 0
zeros_value zero = refl
zeros_value (suc k) = zeros_value k

pub zeros_length : (k : ℕ) → length {A = ℕ} (replicate k 48) ≡ k
zeros_length k = length-replicate {A = ℕ} k 48

-- zeros at the end are powers of ten
pub zeros_shift : (n k : ℕ) → value_after n (replicate k 48) ≡ n * 10 ^ k
zeros_shift n k =
    let split = value_split n (replicate k 48) in
    let bare : n * 10 ^ length {A = ℕ} (replicate k 48) + value (replicate k 48)
    ≡ n * 10 ^ length {A = ℕ} (replicate k 48) = rw (zeros_value k) (omega arith) in
    split ∙ (bare ∙ ap (λ j. n * 10 ^ j) (zeros_length k))

-- a number of fewer digits fits 64 bits
small : (p n : ℕ) → p ≤ 15 → n < 10 ^ p → n < 1000000000000000
small p n few h = let wide : 10 ^ p ≤ 10 ^ 15 = pow-le-pow_right (omega arith) few in omega arith

pub padded_value : (p n : ℕ) → p ≤ 15 → n < 10 ^ p → value (padded p n) ≡ n
padded_value zero n few h = omega arith
padded_value (suc p) n few h =
    let fits : n < 1000000000000000 = small (suc p) n few h in
    value_append 0 (replicate (suc p - length (decimal n)) 48) (decimal n)
    ∙ (ap (λ m. value_after m (decimal n)) (zeros_value (suc p - length (decimal n)))
    ∙ decimal_value_is n (omega arith))

pub padded_length : (p n : ℕ) → p ≤ 15 → n < 10 ^ p → length (padded p n) ≡ p
padded_length zero n few h = refl
padded_length (suc p) n few h =
    let fits : n < 1000000000000000 = small (suc p) n few h in
    let short : length (decimal n) ≤ suc p =
    length-decimal-le (suc p) n (omega arith) h (omega arith) in
    let zeros : length {A = ℕ} (replicate (suc p - length (decimal n)) 48)
    ≡ suc p - length (decimal n) = zeros_length (suc p - length (decimal n)) in
    length-append (replicate (suc p - length (decimal n)) 48) (decimal n) ∙ omega arith

pub padded_digits : (p n : ℕ) → p ≤ 15 → n < 10 ^ p → AreDigits (padded p n)
padded_digits zero n few h = tt
padded_digits (suc p) n few h =
    let fits : n < 1000000000000000 = small (suc p) n few h in
    digits_append (replicate (suc p - length (decimal n)) 48) (decimal n)
    (zeros_digits (suc p - length (decimal n))) (decimal_digits n (omega arith))

-- a one before them keeps the zeros
pub one_before : (p n : ℕ) → p ≤ 15 → n < 10 ^ p → decimal (10 ^ p + n) ≡ 49 ∷ padded p n
one_before p n few h =
    let wide : 10 ^ p ≤ 10 ^ 15 = pow-le-pow_right (omega arith) few in
    let size : length (padded p n) ≡ p = padded_length p n few h in
    let split : value_after 1 (padded p n) ≡ 1 * 10 ^ length (padded p n) + value (padded p n) =
    value_split 1 (padded p n) in
    let number : value (49 ∷ padded p n) ≡ 10 ^ p + n =
    split ∙ (rw (size, padded_value p n few h) (omega arith)) in
    let written = decimal-digits_value own (49 ∷ padded p n)
    ((lit≤ tt, lit≤ tt), padded_digits p n few h) (omega arith) (λ e. absurd (omega arith))
    (omega arith) in
    ap decimal (sym number) ∙ written

onto_zeros_by : (d k : ℕ) (t : Bool) → (d == 48) ≡ t
    → (j : ℕ) × (d ∷ replicate k 48 ≡ (if t then [] else d ∷ []) ++ replicate j 48)
onto_zeros_by d k true h =
    let zero : d ≡ 48 = grind (arith, nat_tests) in
    (suc k, ap (λ e. e ∷ replicate k 48) zero)
onto_zeros_by d k false h = (k, refl)

onto_zeros : (d : ℕ) (es : List ℕ) (k : ℕ)
    → (j : ℕ) × (d ∷ (es ++ replicate k 48) ≡ onto_kept d es ++ replicate j 48)
onto_zeros d [] k = onto_zeros_by d k (d == 48) refl
onto_zeros d (e ∷ es) k = (k, refl)

-- what is kept, and then zeros
pub kept_zeros : (ds : List ℕ) → (k : ℕ) × (ds ≡ without_zeros ds ++ replicate k 48)
kept_zeros [] = (0, refl)
kept_zeros (d ∷ ds) =
    let more = kept_zeros ds in
    let j = onto_zeros d (without_zeros ds) more.0 in
    (j.0, ap (λ es. d ∷ es) more.1 ∙ j.1)

onto_digits_by : (d : ℕ) (t : Bool) → (48 ≤ d) × (d ≤ 57) → AreDigits (if t then [] else d ∷ [])
onto_digits_by d true h = tt
onto_digits_by d false h = (h, tt)

onto_digits : (d : ℕ) (es : List ℕ) → (48 ≤ d) × (d ≤ 57) → AreDigits es
    → AreDigits (onto_kept d es)
onto_digits d [] h k = onto_digits_by d (d == 48) h
onto_digits d (e ∷ es) h k = (h, k)

pub kept_digits : (ds : List ℕ) → AreDigits ds → AreDigits (without_zeros ds)
kept_digits [] h = tt
kept_digits (d ∷ ds) h = onto_digits d (without_zeros ds) h.0 (kept_digits ds h.1)

zero_goes : (ds : List ℕ) → without_zeros (ds ++ 48 ∷ []) ≡ without_zeros ds
zero_goes [] = refl
zero_goes (d ∷ ds) = ap (λ es. onto_kept d es) (zero_goes ds)

onto_some : (d e : ℕ) (ds : List ℕ) → onto_kept d (ds ++ e ∷ []) ≡ d ∷ (ds ++ e ∷ [])
onto_some d e [] = refl
onto_some d e (c ∷ cs) = refl

other_stays : (ds : List ℕ) (d : ℕ) → d ≢ 48 → without_zeros (ds ++ d ∷ []) ≡ ds ++ d ∷ []
other_stays [] d h = let no : (d == 48) ≡ false = grind (arith, nat_tests) in rw no refl
other_stays (c ∷ cs) d h = ap (λ es. onto_kept c es) (other_stays cs d h) ∙ onto_some c d cs

front_last : (ds : List ℕ) (k : ℕ) → 0 < k → k ≤ length ds
    → take k ds ≡ take (k - 1) ds ++ get_or ds (k - 1) 0 ∷ []
front_last ds k some within =
    let one : k ≡ suc (k - 1) = omega arith in
    ap (λ j. take j ds) one ∙ take-suc ds (k - 1) 0 (omega arith)

-- a zero at the end goes, and any other digit there stays with all before it
pub last_zero : (ds : List ℕ) (k : ℕ) → 0 < k → k ≤ length ds → get_or ds (k - 1) 0 ≡ 48
    → without_zeros (take (k - 1) ds) ≡ without_zeros (take k ds)
last_zero ds k some within none =
    sym (ap without_zeros (front_last ds k some within)
    ∙ (ap (λ d. without_zeros (take (k - 1) ds ++ d ∷ [])) none ∙ zero_goes (take (k - 1) ds)))

pub last_other : (ds : List ℕ) (k : ℕ) → 0 < k → k ≤ length ds → get_or ds (k - 1) 0 ≢ 48
    → take k ds ≡ without_zeros (take k ds)
last_other ds k some within other =
    front_last ds k some within
    ∙ (sym (other_stays (take (k - 1) ds) (get_or ds (k - 1) 0) other)
    ∙ ap without_zeros (sym (front_last ds k some within)))
