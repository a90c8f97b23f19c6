-- A number that is read within a wide limit, in a range within that limit.
use Rattle.std.proofs.Common.{◌≡◌, ℕ, Bool, true, false, List, ℤ, pos, neg_ℤ, ◌≤ℤ◌, ◌<ℤ◌}
use Rattle.std.proofs.Common.{refl, ap, arith}
use Rattle.std.proofs.lemmas.Bool.Decides.{nat_tests}
use Rattle.std.proofs.lemmas.Int.{ints}
use Rattle.std.specs.Prelude.{Option, Some, None, unsigned_abs, nat_le, Ok, Err, if◌then◌else◌}
use Rattle.ldp_decimal.specs.Reading.{decimal_value, decimal_of, within, is_below_zero}
use Rattle.ldp_decimal.specs.declared.fault.NumFault.TheVariants as num
use Rattle.ldp_quantity.specs.Between.{int_between, fit_between, number_from_to}
use Rattle.ldp_quantity.specs.declared.unfit.Unfit.TheVariants.{NotANumber, OutOfRange}

-- the greatest magnitude of an end
abbrev farthest : ℕ
farthest = 10_000_000_000_000_000_000

told : (number : Option ℤ) (n : ℤ) → within farthest number ≡ Ok n → number ≡ Some n
told None n h = absurd cc
told (Some z) n h = told_by (nat_le (unsigned_abs z) farthest) h where
  told_by : (few : Bool) → (if few then Ok z else Err (num.TooLarge (is_below_zero z))) ≡ Ok n
      → Some z ≡ Some n
  told_by true g = let same : z ≡ n = cc in ap Some same
  told_by false g = absurd cc

none : (number : Option ℤ) → within farthest number ≡ Err num.NotANumber → number ≡ None
none None h = refl
none (Some z) h = none_by (nat_le (unsigned_abs z) farthest) h where
  none_by : (few : Bool)
      → (if few then Ok z else Err (num.TooLarge (is_below_zero z))) ≡ Err num.NotANumber
      → Some z ≡ None
  none_by true g = absurd cc
  none_by false g = absurd cc

inside : (low high n : ℤ) → low ≤ℤ n → n ≤ℤ high → int_between low high n ≡ true
inside low high n h k = grind (arith, ints)

below : (low high n : ℤ) → n <ℤ low → int_between low high n ≡ false
below low high n h = grind (arith, ints)

above : (low high n : ℤ) → high <ℤ n → int_between low high n ≡ false
above low high n h = grind (arith, ints)

beyond : (low high n : ℤ) → neg_ℤ (pos farthest) ≤ℤ low → high ≤ℤ pos farthest
    → nat_le (unsigned_abs n) farthest ≡ false → int_between low high n ≡ false
beyond low high n h k l = grind (arith, ints, nat_tests)

far : (low high : ℤ) (number : Option ℤ) (negative : Bool) → neg_ℤ (pos farthest) ≤ℤ low
    → high ≤ℤ pos farthest → within farthest number ≡ Err (num.TooLarge negative)
    → Err OutOfRange ≡ fit_between low high number
far low high None negative h k l = absurd cc
far low high (Some z) negative h k l = far_by (nat_le (unsigned_abs z) farthest) refl l where
  far_by : (few : Bool) → nat_le (unsigned_abs z) farthest ≡ few
      → (if few then Ok z else Err (num.TooLarge (is_below_zero z))) ≡ Err (num.TooLarge negative)
      → Err OutOfRange ≡ fit_between low high (Some z)
  far_by true f g = absurd cc
  far_by false f g = rw (beyond low high z h k f) refl

-- a number that is read and lies in the range
pub read_inside : (places : ℕ) (text : List ℕ) (low high n : ℤ)
    → decimal_of places farthest text ≡ Ok n → low ≤ℤ n → n ≤ℤ high
    → Ok n ≡ number_from_to places low high text
unfolding decimal_of number_from_to
read_inside places text low high n h k l =
    rw (told (decimal_value places text) n h, inside low high n k l) refl

-- one that lies below it
pub read_below : (places : ℕ) (text : List ℕ) (low high n : ℤ)
    → decimal_of places farthest text ≡ Ok n → n <ℤ low
    → Err OutOfRange ≡ number_from_to places low high text
unfolding decimal_of number_from_to
read_below places text low high n h k =
    rw (told (decimal_value places text) n h, below low high n k) refl

-- one that lies above it
pub read_above : (places : ℕ) (text : List ℕ) (low high n : ℤ)
    → decimal_of places farthest text ≡ Ok n → high <ℤ n
    → Err OutOfRange ≡ number_from_to places low high text
unfolding decimal_of number_from_to
read_above places text low high n h k =
    rw (told (decimal_value places text) n h, above low high n k) refl

-- one that lies beyond the limit
pub read_far : (places : ℕ) (text : List ℕ) (low high : ℤ) (negative : Bool)
    → neg_ℤ (pos farthest) ≤ℤ low → high ≤ℤ pos farthest
    → decimal_of places farthest text ≡ Err (num.TooLarge negative)
    → Err OutOfRange ≡ number_from_to places low high text
unfolding decimal_of number_from_to
read_far places text low high negative h k l =
    far low high (decimal_value places text) negative h k l

-- a text that is no number
pub unread : (places : ℕ) (text : List ℕ) (low high : ℤ)
    → decimal_of places farthest text ≡ Err num.NotANumber
    → Err NotANumber ≡ number_from_to places low high text
unfolding decimal_of number_from_to
unread places text low high h = rw (none (decimal_value places text) h) refl
