-- A written number is the longest run of value bytes, where a comma follows it.
use Rattle.std.proofs.Common.{◌≡◌, ℕ, zero, suc, ◌-◌, ◌/◌, ◌%◌, ◌^◌, ◌≤◌, ◌==◌}
use Rattle.std.proofs.Common.{ℤ, pos, negsuc, unsigned_abs, Bool, true, false, List, [], ◌∷◌, ◌++◌}
use Rattle.std.proofs.Common.{length, take, drop, replicate, decimal, refl, ap, ◌∙◌, arith, rules}
use Rattle.std.proofs.Common.{if◌then◌else◌}
use Rattle.std.specs.List.{list_all, prefix_len}
use Rattle.std.proofs.Math.Nat.{div-le_self, one-le-pow, pow-le-pow_right}
use Rattle.std.proofs.Math.Seq.{take-append_seam, drop-append_seam}
use Rattle.std.proofs.lemmas.Bool.Decides.{nat_tests}
use Rattle.std.proofs.lemmas.Fmt.{digits_decimal}
use Rattle.std.proofs.lemmas.List.Folds.{list_all-append}
use Rattle.std.proofs.lemmas.Str.Parse.{IsNumeralModel, numerals_by_fold}
use Rattle.ldp_decimal.specs.Grammar.{AreDigits, value_after}
use Rattle.ldp_decimal.specs.Writing.{sign, padded, pointed, without_zeros, onto_kept, whole_digits}
use Rattle.ldp_decimal.specs.Writing.{further_digits, trimmed_text}
use Rattle.ldp_num.specs.Number.{limit}
use Rattle.ldp_wkt2.specs.Reading.{is_value, run, behind_run}
use Rattle.ldp_wkt2.proofs.Allowed.{both}

-- value bytes alone
abbrev pub are_values : List ℕ → Bool
are_values text = list_all is_value text

own : IsNumeralModel AreDigits (value_after 0)
own = numerals_by_fold AreDigits (search rules) value_after (search rules)

digit_value : (d : ℕ) → (48 ≤ d) × (d ≤ 57) → is_value d ≡ true
digit_value d h = grind (arith, nat_tests)

digits_values : (ds : List ℕ) → AreDigits ds → are_values ds ≡ true
digits_values [] h = refl
digits_values (d ∷ ds) h = rw (digit_value d h.0) (digits_values ds h.1)

decimal_values : (n : ℕ) → n ≤ limit → are_values (decimal n) ≡ true
decimal_values n h = digits_values (decimal n) (digits_decimal own n (omega arith))

append_values : (a b : List ℕ) → are_values a ≡ true → are_values b ≡ true
    → are_values (a ++ b) ≡ true
append_values a b h k = list_all-append is_value a b ∙ rw (h, k) refl

sign_values : (z : ℤ) → are_values (sign z) ≡ true
sign_values (pos n) = refl
sign_values (negsuc n) = refl

zeros_values : (k : ℕ) → are_values (replicate k 48) ≡ true
zeros_values zero = refl
zeros_values (suc k) = zeros_values k

padded_values : (places n : ℕ) → n ≤ limit → are_values (padded places n) ≡ true
padded_values zero n h = refl
padded_values (suc p) n h =
    append_values (replicate (suc p - length (decimal n)) 48) (decimal n)
    (zeros_values (suc p - length (decimal n))) (decimal_values n h)

if_values : (t : Bool) (d : ℕ) → is_value d ≡ true
    → are_values (if t then [] else d ∷ []) ≡ true
if_values true d h = refl
if_values false d h = rw h refl

onto_values : (d : ℕ) (ds : List ℕ) → is_value d ≡ true → are_values ds ≡ true
    → are_values (onto_kept d ds) ≡ true
onto_values d [] h k = if_values (d == 48) d h
onto_values d (e ∷ es) h k = rw h k

kept_values : (ds : List ℕ) → are_values ds ≡ true → are_values (without_zeros ds) ≡ true
kept_values [] h = refl
kept_values (d ∷ ds) h =
    let two = both (is_value d) (are_values ds) h in
    onto_values d (without_zeros ds) two.0 (kept_values ds two.1)

pointed_values : (ds : List ℕ) → are_values ds ≡ true → are_values (pointed ds) ≡ true
pointed_values [] h = refl
pointed_values (d ∷ ds) h = h

whole_small : (places n : ℕ) → n ≤ limit → n / 10 ^ places ≤ limit
whole_small places n h = let below : n / 10 ^ places ≤ n = div-le_self n (10 ^ places) in
    omega arith

further_small : (places n : ℕ) → places ≤ 15 → n % 10 ^ places ≤ limit
further_small places n few =
    let positive : 1 ≤ 10 ^ places = one-le-pow places 10 (omega arith) in
    let wide : 10 ^ places ≤ 10 ^ 15 = pow-le-pow_right (omega arith) few in
    omega arith

pub trimmed_values : (places : ℕ) (z : ℤ) → places ≤ 15 → unsigned_abs z ≤ limit
    → are_values (trimmed_text places z) ≡ true
unfolding trimmed_text
trimmed_values places z few small =
    let n : ℕ = unsigned_abs z in
    append_values (sign z)
    (whole_digits places n ++ pointed (without_zeros (further_digits places n))) (sign_values z)
    (append_values (whole_digits places n) (pointed (without_zeros (further_digits places n)))
    (decimal_values (n / 10 ^ places) (whole_small places n small))
    (pointed_values (without_zeros (further_digits places n))
    (kept_values (further_digits places n)
    (padded_values places (n % 10 ^ places) (further_small places n few)))))

run_len : (t rest : List ℕ) → are_values t ≡ true → prefix_len is_value (t ++ 44 ∷ rest) ≡ length t
run_len [] rest h = refl
run_len (b ∷ bs) rest h =
    let two = both (is_value b) (are_values bs) h in
    rw two.0 (omega (arith, run_len bs rest two.1))

pub run_is : (t rest : List ℕ) → are_values t ≡ true → run (t ++ 44 ∷ rest) ≡ t
run_is t rest h =
    ap (λ k. take k (t ++ 44 ∷ rest)) (run_len t rest h) ∙ take-append_seam t (44 ∷ rest)

pub behind_run_is : (t rest : List ℕ) → are_values t ≡ true
    → behind_run (t ++ 44 ∷ rest) ≡ 44 ∷ rest
behind_run_is t rest h =
    ap (λ k. drop k (t ++ 44 ∷ rest)) (run_len t rest h) ∙ drop-append_seam t (44 ∷ rest)
