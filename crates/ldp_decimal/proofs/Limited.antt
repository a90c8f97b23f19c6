-- The answers of `decimal_of`, by the parts of a text.
use Rattle.std.proofs.Common.{◌≡◌, ℕ, zero, suc, ◌<◌, ◌≤◌, unsigned_abs, nat_le, Bool, true, false}
use Rattle.std.proofs.Common.{List, Some, None, Ok, Err, refl, arith}
use Rattle.std.proofs.lemmas.Bool.Decides.{nat_tests}
use Rattle.ldp_decimal.specs.declared.fault.NumFault.TheVariants.{NotANumber, TooLarge}
use Rattle.ldp_decimal.specs.Grammar.{Parts, parts}
use Rattle.ldp_decimal.specs.Fraction.{fraction_of, magnitude, with_sign}
use Rattle.ldp_decimal.specs.Reading.{decimal_value, decimal_of, is_below_zero}

-- the magnitude and the sign of a number with a sign
pub abs_is : (negative : Bool) (n : ℕ) → unsigned_abs (with_sign negative n) ≡ n
abs_is false n = refl
abs_is true zero = refl
abs_is true (suc n) = refl

pub sign_is : (negative : Bool) (n : ℕ) → 0 < n → is_below_zero (with_sign negative n) ≡ negative
sign_is false n h = refl
sign_is true zero h = absurd (omega arith)
sign_is true (suc n) h = refl

pub read_none : (places limit : ℕ) (text : List ℕ) → parts text ≡ None
    → decimal_of places limit text ≡ Err NotANumber
unfolding decimal_of decimal_value
read_none places limit text h = rw h refl

pub read_some : (places limit : ℕ) (text : List ℕ) (p : Parts) (n : ℕ) → parts text ≡ Some p
    → n ≡ magnitude places (fraction_of p) → n ≤ limit
    → decimal_of places limit text ≡ Ok (with_sign p.negative n)
unfolding decimal_of decimal_value
read_some places limit text p n h e small =
    let yes : nat_le (unsigned_abs (with_sign p.negative n)) limit ≡ true =
    rw (abs_is p.negative n) (grind (arith, nat_tests)) in
    rw (h, ← e, yes) refl

pub read_large : (places limit : ℕ) (text : List ℕ) (p : Parts) → parts text ≡ Some p
    → limit < magnitude places (fraction_of p)
    → decimal_of places limit text ≡ Err (TooLarge p.negative)
unfolding decimal_of decimal_value
read_large places limit text p h large =
    let no : nat_le (unsigned_abs (with_sign p.negative (magnitude places (fraction_of p)))) limit
    ≡ false =
    rw (abs_is p.negative (magnitude places (fraction_of p))) (grind (arith, nat_tests)) in
    let sign : is_below_zero (with_sign p.negative (magnitude places (fraction_of p)))
    ≡ p.negative = sign_is p.negative (magnitude places (fraction_of p)) (omega arith) in
    rw (h, no, sign) refl
