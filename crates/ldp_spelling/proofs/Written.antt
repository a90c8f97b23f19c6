-- What is read is what is written, and what is written is read.
use Rattle.std.proofs.Common.{◌≡◌, ℕ, ◌/◌, ◌≤◌, ◌^◌, ◌≤ℤ◌, nat_le, ◌&&◌, ℤ, pos, neg_ℤ}
use Rattle.std.proofs.Common.{unsigned_abs, Bool, true, false, List, decimal, IfSome}
use Rattle.std.proofs.Common.{Option, Some, None, option_and_then, Result, Ok, Err, refl, sym, ap}
use Rattle.std.proofs.Common.{◌∙◌, arith, rules, if◌then◌else◌}
use Rattle.std.specs.Prelude.{int_le, bytes_eq}
use Rattle.std.proofs.lemmas.Int.{ints}
use Rattle.std.proofs.lemmas.List.{append-nil}
use Rattle.std.proofs.lemmas.Bool.Decides.{nat_tests}
use Rattle.std.proofs.lemmas.Slice.Eq.{bytes_eq-Decides}
use Rattle.ldp_num.specs.Number.{limit}
use Rattle.ldp_decimal.specs.declared.fault.NumFault.{NumFault}
use Rattle.ldp_decimal.specs.Reading.{decimal_of}
use Rattle.ldp_decimal.specs.Writing.{decimal_text, trimmed_text}
use Rattle.ldp_decimal.proofs.Spelled.{decimal_is_read, trimmed_is_read}
use Rattle.ldp_spelling.specs.Numbers.{as_written, trimmed_in, fixed_in, whole_as}
use Rattle.ldp_spelling.specs.Numbers.{magnitude_of, whole_in, IsWritten, IsWhole}

pub if_some : {A : Type 0} (t : Bool) (x y : A) → (if t then Some x else None) ≡ Some y
    → (t ≡ true) × (x ≡ y)
if_some true x y e = (refl, cc)
if_some false x y e = absurd cc

both : (a b : Bool) → (a && b) ≡ true → (a ≡ true) × (b ≡ true)
both true b e = (refl, e)
both false b e = absurd cc

int_le_is : (a b : ℤ) → int_le a b ≡ true → a ≤ℤ b
int_le_is a b e = search (ints, rules)

int_le_yes : (a b : ℤ) → a ≤ℤ b → int_le a b ≡ true
int_le_yes a b h = search (ints, rules)

le_is : (m n : ℕ) → nat_le m n ≡ true → m ≤ n
le_is m n e = grind (arith, nat_tests)

le_yes : (m n : ℕ) → m ≤ n → nat_le m n ≡ true
le_yes m n h = grind (arith, nat_tests)

no_value : {A : Type 0} (y : A) → None ≡ Some y → ⊥
no_value y e = cc

written_found : (write : ℤ → List ℕ) (low high : ℤ) (text : List ℕ) (r : Result ℤ NumFault) (z : ℤ)
    → as_written write low high text r ≡ Some z → IsWritten write low high text z
written_found write low high text (Err fault) z e = absurd (no_value z e)
written_found write low high text (Ok y) z e =
    let yes = if_some (int_le low y && (int_le y high && bytes_eq (write y) text)) y z e in
    let first = both (int_le low y) (int_le y high && bytes_eq (write y) text) yes.0 in
    let second = both (int_le y high) (bytes_eq (write y) text) first.1 in
    record {
      above = int_le_is low z (ap (λ x. int_le low x) (sym yes.1) ∙ first.0);
      below = int_le_is z high (ap (λ x. int_le x high) (sym yes.1) ∙ second.0);
      spelled = sym ((bytes_eq-Decides (write y) text).0 second.1) ∙ ap write yes.1;
    }

written_again : (write : ℤ → List ℕ) (low high : ℤ) (text : List ℕ) (z : ℤ)
    → IsWritten write low high text z → as_written write low high text (Ok z) ≡ Some z
written_again write low high text z h =
    let same : bytes_eq (write z) text ≡ true =
    (bytes_eq-Decides (write z) text).1 (sym h.spelled) in
    rw (int_le_yes low z h.above, int_le_yes z high h.below, same) refl

-- a number between two numbers of at most the limit
pub within_limit : (low high z : ℤ) → neg_ℤ (pos limit) ≤ℤ low → high ≤ℤ pos limit → low ≤ℤ z
    → z ≤ℤ high → unsigned_abs z ≤ limit
within_limit low high z l h a b = omega (arith, ints, l, h, a, b)

pub trimmed_found : (places : ℕ) (low high : ℤ) (text : List ℕ) (z : ℤ)
    → trimmed_in places low high text ≡ Some z → IsWritten (trimmed_text places) low high text z
unfolding trimmed_in
trimmed_found places low high text z e =
    written_found (trimmed_text places) low high text (decimal_of places limit text) z e

pub trimmed_again : (places : ℕ) (low high : ℤ) (text : List ℕ) (z : ℤ) → places ≤ 15
    → neg_ℤ (pos limit) ≤ℤ low → high ≤ℤ pos limit
    → IsWritten (trimmed_text places) low high text z → trimmed_in places low high text ≡ Some z
unfolding trimmed_in
trimmed_again places low high text z few l h w =
    let small : unsigned_abs z ≤ limit = within_limit low high z l h w.above w.below in
    let read : decimal_of places limit text ≡ Ok z = ap (decimal_of places limit) w.spelled
    ∙ trimmed_is_read places limit z few small small in
    ap (as_written (trimmed_text places) low high text) read
    ∙ written_again (trimmed_text places) low high text z w

pub fixed_found : (places : ℕ) (low high : ℤ) (text : List ℕ) (z : ℤ)
    → fixed_in places low high text ≡ Some z → IsWritten (decimal_text places) low high text z
unfolding fixed_in
fixed_found places low high text z e =
    written_found (decimal_text places) low high text (decimal_of places limit text) z e

pub fixed_again : (places : ℕ) (low high : ℤ) (text : List ℕ) (z : ℤ) → places ≤ 15
    → neg_ℤ (pos limit) ≤ℤ low → high ≤ℤ pos limit
    → IsWritten (decimal_text places) low high text z → fixed_in places low high text ≡ Some z
unfolding fixed_in
fixed_again places low high text z few l h w =
    let small : unsigned_abs z ≤ limit = within_limit low high z l h w.above w.below in
    let read : decimal_of places limit text ≡ Ok z = ap (decimal_of places limit) w.spelled
    ∙ decimal_is_read places limit z few small small in
    ap (as_written (decimal_text places) low high text) read
    ∙ written_again (decimal_text places) low high text z w

digits_of : (n : ℕ) → decimal n ≡ decimal_text 0 (pos n)
unfolding decimal_text
digits_of n = let one : n / 10 ^ 0 ≡ n = omega arith in rw (one, append-nil (decimal n)) refl

whole_by : (low high : ℕ) (text : List ℕ) (r : Result ℤ NumFault) (n : ℕ)
    → option_and_then (whole_as low high text) (magnitude_of r) ≡ Some n → IsWhole low high text n
whole_by low high text (Err fault) n e = absurd (no_value n e)
whole_by low high text (Ok z) n e =
    let m : ℕ = unsigned_abs z in
    let yes = if_some (nat_le low m && (nat_le m high && bytes_eq (decimal m) text)) m n e in
    let first = both (nat_le low m) (nat_le m high && bytes_eq (decimal m) text) yes.0 in
    let second = both (nat_le m high) (bytes_eq (decimal m) text) first.1 in
    record {
      above = le_is low n (ap (nat_le low) (sym yes.1) ∙ first.0);
      below = le_is n high (ap (λ k. nat_le k high) (sym yes.1) ∙ second.0);
      spelled = sym ((bytes_eq-Decides (decimal m) text).0 second.1) ∙ ap decimal yes.1;
    }

pub whole_found : (low high : ℕ) (text : List ℕ) (n : ℕ) → whole_in low high text ≡ Some n
    → IsWhole low high text n
unfolding whole_in
whole_found low high text n e = whole_by low high text (decimal_of 0 limit text) n e

pub whole_again : (low high : ℕ) (text : List ℕ) (n : ℕ) → high ≤ limit → IsWhole low high text n
    → whole_in low high text ≡ Some n
unfolding whole_in
whole_again low high text n small h =
    let within : n ≤ limit = omega (arith, h.below, small) in
    let read : decimal_of 0 limit text ≡ Ok (pos n) =
    ap (decimal_of 0 limit) (h.spelled ∙ digits_of n)
    ∙ decimal_is_read 0 limit (pos n) (omega arith) within within in
    let same : bytes_eq (decimal n) text ≡ true =
    (bytes_eq-Decides (decimal n) text).1 (sym h.spelled) in
    ap (λ r. option_and_then (whole_as low high text) (magnitude_of r)) read
    ∙ rw (le_yes low n h.above, le_yes n high h.below, same) refl

-- the same of what a call answers
pub whole_if : (low high : ℕ) (text : List ℕ) (r : Option ℕ) → r ≡ whole_in low high text
    → IfSome r (IsWhole low high text)
whole_if low high text None e = tt
whole_if low high text (Some n) e = whole_found low high text n (sym e)

pub trimmed_if : (places : ℕ) (low high : ℤ) (text : List ℕ) (r : Option ℤ)
    → r ≡ trimmed_in places low high text → IfSome r (IsWritten (trimmed_text places) low high text)
trimmed_if places low high text None e = tt
trimmed_if places low high text (Some z) e = trimmed_found places low high text z (sym e)

pub fixed_if : (places : ℕ) (low high : ℤ) (text : List ℕ) (r : Option ℤ)
    → r ≡ fixed_in places low high text → IfSome r (IsWritten (decimal_text places) low high text)
fixed_if places low high text None e = tt
fixed_if places low high text (Some z) e = fixed_found places low high text z (sym e)
