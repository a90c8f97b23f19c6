-- Written distortions are ASCII.
use Rattle.std.proofs.Common.{◌≡◌, ℕ, zero, suc, ◌-◌, ◌/◌, ◌%◌, ◌^◌, ◌<◌, ◌≤◌, nat_lt, ℤ, pos}
use Rattle.std.proofs.Common.{negsuc}
use Rattle.std.proofs.Common.{unsigned_abs, Bool, true, false, ◌&&◌, List, [], ◌∷◌, ◌++◌, length}
use Rattle.std.proofs.Common.{replicate, decimal, Result, Ok, Err, Bor, refl, ◌∙◌, arith, rules}
use Rattle.std.specs.Prelude.{slice_index, MatchResult}
use Rattle.std.specs.List.{list_all}
use Rattle.std.specs.Result.{result_unwrap_or}
use Rattle.std.specs.Str.{IsAscii, IsUtf8}
use Rattle.std.proofs.lemmas.Bool.Decides.{nat_tests}
use Rattle.std.proofs.lemmas.Fmt.{digits_decimal}
use Rattle.std.proofs.lemmas.List.Folds.{list_all-append}
use Rattle.std.proofs.lemmas.Str.{IsUtf8-from_ascii}
use Rattle.std.proofs.lemmas.Str.Parse.{IsNumeralModel, numerals_by_fold}
use Rattle.ldp_decimal.specs.Grammar.{AreDigits, value_after}
use Rattle.ldp_decimal.specs.Writing.{sign, padded, pointed, whole_digits, further_digits}
use Rattle.ldp_decimal.specs.Writing.{decimal_text}
use Rattle.ldp_table.specs.Texts.{ppm_text}

abbrev is_ascii : List ℕ → Bool
is_ascii text = list_all (λ byte. nat_lt byte 128) text

both : (a b : Bool) → (a && b) ≡ true → (a ≡ true) × (b ≡ true)
both true b e = (refl, e)
both false b e = absurd cc

own : IsNumeralModel AreDigits (value_after 0)
own = numerals_by_fold AreDigits (search rules) value_after (search rules)

digit_ascii : (d : ℕ) → (48 ≤ d) × (d ≤ 57) → nat_lt d 128 ≡ true
digit_ascii d h = grind (arith, nat_tests)

digits_ascii : (ds : List ℕ) → AreDigits ds → is_ascii ds ≡ true
digits_ascii [] h = refl
digits_ascii (d ∷ ds) h = rw (digit_ascii d h.0) (digits_ascii ds h.1)

decimal_ascii : (n : ℕ) → n ≤ 10000000000000000000 → is_ascii (decimal n) ≡ true
decimal_ascii n h = digits_ascii (decimal n) (digits_decimal own n (omega arith))

append_ascii : (a b : List ℕ) → is_ascii a ≡ true → is_ascii b ≡ true → is_ascii (a ++ b) ≡ true
append_ascii a b h k = list_all-append (λ byte. nat_lt byte 128) a b ∙ rw (h, k) refl

sign_ascii : (z : ℤ) → is_ascii (sign z) ≡ true
sign_ascii (pos n) = refl
sign_ascii (negsuc n) = refl

zeros_ascii : (k : ℕ) → is_ascii (replicate k 48) ≡ true
zeros_ascii zero = refl
zeros_ascii (suc k) = zeros_ascii k

padded_ascii : (places n : ℕ) → n ≤ 10000000000000000000 → is_ascii (padded places n) ≡ true
padded_ascii zero n h = refl
padded_ascii (suc p) n h =
    append_ascii (replicate (suc p - length (decimal n)) 48) (decimal n)
    (zeros_ascii (suc p - length (decimal n))) (decimal_ascii n h)

pointed_ascii : (ds : List ℕ) → is_ascii ds ≡ true → is_ascii (pointed ds) ≡ true
pointed_ascii [] h = refl
pointed_ascii (d ∷ ds) h = h

text_ascii : (z : ℤ) → unsigned_abs z ≤ 10000000000000000000 → is_ascii (ppm_text z) ≡ true
unfolding decimal_text
text_ascii z small =
    let n : ℕ = unsigned_abs z in
    append_ascii (sign z) (whole_digits 9 n ++ pointed (further_digits 9 n)) (sign_ascii z)
    (append_ascii (whole_digits 9 n) (pointed (further_digits 9 n))
    (decimal_ascii (n / 10 ^ 9) (omega arith))
    (pointed_ascii (further_digits 9 n) (padded_ascii 9 (n % 10 ^ 9) (omega arith))))

byte_ascii : (b : ℕ) → nat_lt b 128 ≡ true → b < 128
byte_ascii b e = grind (arith, nat_tests)

bytes_are : (text : List ℕ) → is_ascii text ≡ true → (i : ℕ) → slice_index text i < 128
bytes_are [] e i = omega arith
bytes_are (b ∷ bs) e zero = byte_ascii b (both (nat_lt b 128) (is_ascii bs) e).0
bytes_are (b ∷ bs) e (suc i) = bytes_are bs (both (nat_lt b 128) (is_ascii bs) e).1 i

pub ppm_ascii : (z : ℤ) → unsigned_abs z ≤ 10000000000000000000 → IsAscii (ppm_text z)
ppm_ascii z small = bytes_are (ppm_text z) (text_ascii z small)

-- the bytes that are a text
pub text_is : {E : Type 0} (Q : E → Type 0) (r : Result (Bor (List ℕ)) E) (d : Bor (List ℕ))
    (bytes : List ℕ) → IsAscii bytes
    → MatchResult r (λ s. (s.now ≡ bytes) × IsUtf8 bytes) (λ e. (IsUtf8 bytes → ⊥) × Q e)
    → (result_unwrap_or r d).now ≡ bytes
text_is Q (Ok s) d bytes h m = m.0
text_is Q (Err e) d bytes h m = absurd (m.0 (IsUtf8-from_ascii bytes h))
