-- The parts of a text are those of its spelling, and a text that has parts has a spelling.
use Rattle.std.proofs.Common.{◌≡◌, ℕ, ◌+◌, ◌≤◌, ◌==◌, ◌&&◌, ◌||◌, nat_le, Bool, true, false, List}
use Rattle.std.proofs.Common.{[], ◌∷◌, ◌++◌, length, take-append-drop, Option, Some, None}
use Rattle.std.proofs.Common.{unwrap_or, option_and_then, refl, ap, subst, ◌∙◌, arith}
use Rattle.std.proofs.Common.{if◌then◌else◌}
use Rattle.std.proofs.lemmas.Bool.Decides.{nat_tests}
use Rattle.std.proofs.lemmas.List.{append-nil}
use Rattle.std.specs.List.{prefix_len, list_all}
use Rattle.std.specs.Char.{is_ascii_digit}
use Rattle.ldp_decimal.specs.Grammar.{AreDigits, Parts, parts, parts_of, signed, digits}
use Rattle.ldp_decimal.specs.Grammar.{behind_point, exponent, power, with_exponent, value}
use Rattle.ldp_decimal.specs.Spelling.{Sign, unsigned, plus, minus, sign_text, is_minus, Exponent}
use Rattle.ldp_decimal.specs.Spelling.{Spelling, point_text, letter, exponent_text, spelling_text}
use Rattle.ldp_decimal.specs.Spelling.{IsExponent, IsSpelling, Spelled, powers, parts_told}
use Rattle.ldp_decimal.proofs.Digits.{front_digits, all_digits, and_left, and_right}
use Rattle.ldp_decimal.proofs.Spelled.{NoDigitFirst, digit_yes, digits_is}

-- the first byte is no sign
abbrev NoSignFirst : List ℕ → Type 0
NoSignFirst [] = Unit {0}
NoSignFirst (b ∷ bs) = ((b == 45) ≡ false) × ((b == 43) ≡ false)

signed_told : (s : Sign) (rest : List ℕ) → NoSignFirst rest
    → signed (sign_text s ++ rest) ≡ (is_minus s, rest)
signed_told unsigned [] h = refl
signed_told unsigned (b ∷ bs) h = rw (h.0, h.1) refl
signed_told plus rest h = refl
signed_told minus rest h = refl

digit_no_sign : (d : ℕ) → (48 ≤ d) × (d ≤ 57) → ((d == 45) ≡ false) × ((d == 43) ≡ false)
digit_no_sign d h = (grind (arith, nat_tests), grind (arith, nat_tests))

digits_no_sign : (ds rest : List ℕ) → AreDigits ds → NoSignFirst rest → NoSignFirst (ds ++ rest)
digits_no_sign [] rest h k = k
digits_no_sign (d ∷ ds) rest h k = digit_no_sign d h.0

letter_no_sign : (c : Bool) → ((letter c == 45) ≡ false) × ((letter c == 43) ≡ false)
letter_no_sign true = (refl, refl)
letter_no_sign false = (refl, refl)

letter_no_point : (c : Bool) → (letter c == 46) ≡ false
letter_no_point true = refl
letter_no_point false = refl

letter_no_digit : (c : Bool) → is_ascii_digit (letter c) ≡ false
letter_no_digit true = refl
letter_no_digit false = refl

letter_marks : (c : Bool) → ((letter c == 101) || (letter c == 69)) ≡ true
letter_marks true = refl
letter_marks false = refl

rest_no_sign : (further : Option (List ℕ)) (e : Option Exponent)
    → NoSignFirst (point_text further ++ exponent_text e)
rest_no_sign None None = tt
rest_no_sign None (Some e) = letter_no_sign e.capital
rest_no_sign (Some ds) e = (refl, refl)

rest_no_digit : (further : Option (List ℕ)) (e : Option Exponent)
    → NoDigitFirst (point_text further ++ exponent_text e)
rest_no_digit None None = tt
rest_no_digit None (Some e) = letter_no_digit e.capital
rest_no_digit (Some ds) e = refl

exponent_no_digit : (e : Option Exponent) → NoDigitFirst (exponent_text e)
exponent_no_digit None = tt
exponent_no_digit (Some e) = letter_no_digit e.capital

behind_told : (further : Option (List ℕ)) (e : Option Exponent) → AreDigits (unwrap_or further [])
    → behind_point (point_text further ++ exponent_text e) ≡ (unwrap_or further [], exponent_text e)
behind_told None None h = refl
behind_told None (Some e) h = rw (letter_no_point e.capital) refl
behind_told (Some ds) e h = digits_is ds (exponent_text e) h (exponent_no_digit e)

digits_all : (ds : List ℕ) → AreDigits ds → list_all is_ascii_digit ds ≡ true
digits_all [] h = refl
digits_all (d ∷ ds) h = rw (digit_yes d h.0) (digits_all ds h.1)

power_told : (negative : Bool) (ds : List ℕ) → AreDigits ds → 1 ≤ length ds → length ds ≤ 4
    → power negative ds ≡ Some (if negative then (0, value ds) else (value ds, 0))
unfolding power
power_told negative ds h some few =
    let one : nat_le 1 (length ds) ≡ true = grind (arith, nat_tests) in
    let four : nat_le (length ds) 4 ≡ true = grind (arith, nat_tests) in
    rw (digits_all ds h, one, four) refl

exponent_told : (e : Option Exponent) → IsExponent e → exponent (exponent_text e) ≡ Some (powers e)
unfolding exponent
exponent_told None h = refl
exponent_told (Some e) h =
    let power_of : Bool × List ℕ → Option (ℕ × ℕ) = λ s. power s.0 s.1 in
    let first : NoSignFirst e.power =
    subst NoSignFirst (append-nil e.power) (digits_no_sign e.power [] h.0 tt) in
    rw (letter_marks e.capital)
    (ap power_of (signed_told e.sign e.power first) ∙ power_told (is_minus e.sign) e.power h.0
    h.1 h.2)

pub parts_are_told : (s : Spelling) → IsSpelling s → parts (spelling_text s) ≡ Some (parts_told s)
unfolding parts parts_of with_exponent
parts_are_told s h =
    let short : nat_le (length (spelling_text s)) 64 ≡ true =
    let small = h.short in
    grind (arith, nat_tests) in
    let some : nat_le 1 (length s.whole + length (unwrap_or s.further [])) ≡ true =
    let one = h.some in
    grind (arith, nat_tests) in
    let negative : Bool = is_minus s.sign in
    let rest : List ℕ = point_text s.further ++ exponent_text s.exponent in
    let with_power : Option (ℕ × ℕ) → Option Parts =
    λ e. option_and_then (with_exponent negative s.whole (unwrap_or s.further [])) e in
    let with_fraction : List ℕ × List ℕ → Option Parts =
    λ f. option_and_then (with_exponent negative s.whole f.0) (exponent f.1) in
    let with_whole : List ℕ × List ℕ → Option Parts =
    λ d. option_and_then (with_exponent negative d.0 (behind_point d.1).0)
    (exponent (behind_point d.1).1) in
    let with_signed : Bool × List ℕ → Option Parts =
    λ x. option_and_then (with_exponent x.0 (digits x.1).0 (behind_point (digits x.1).1).0)
    (exponent (behind_point (digits x.1).1).1) in
    let end : with_power (Some (powers s.exponent)) ≡ Some (parts_told s) = rw some refl in
    rw short (ap with_signed
    (signed_told s.sign (s.whole ++ rest)
    (digits_no_sign s.whole rest h.whole (rest_no_sign s.further s.exponent)))
    ∙ (ap with_whole (digits_is s.whole rest h.whole (rest_no_digit s.further s.exponent))
    ∙ (ap with_fraction (behind_told s.further s.exponent h.further)
    ∙ (ap with_power (exponent_told s.exponent h.exponent) ∙ end))))

-- back from the parts: the sign
record SignBack (text : List ℕ) (found : Bool × List ℕ) : Type 0 where
  sign : Sign
  told : is_minus sign ≡ found.0
  same : sign_text sign ++ found.1 ≡ text

signed_by : (b : ℕ) (bs : List ℕ) (m p : Bool) → (b == 45) ≡ m → (b == 43) ≡ p
    → SignBack (b ∷ bs) (if m then (true, bs) else if p then (false, bs) else (false, b ∷ bs))
signed_by b bs true p h k =
    let e : 45 ≡ b = grind (arith, nat_tests) in
    record { sign = minus; told = refl; same = ap (λ c. c ∷ bs) e }
signed_by b bs false true h k =
    let e : 43 ≡ b = grind (arith, nat_tests) in
    record { sign = plus; told = refl; same = ap (λ c. c ∷ bs) e }
signed_by b bs false false h k = record { sign = unsigned; told = refl; same = refl }

signed_back : (text : List ℕ) → SignBack text (signed text)
signed_back [] = record { sign = unsigned; told = refl; same = refl }
signed_back (b ∷ bs) = signed_by b bs (b == 45) (b == 43) refl refl

digits_back : (bs : List ℕ) → (digits bs).0 ++ (digits bs).1 ≡ bs
digits_back bs = take-append-drop (prefix_len is_ascii_digit bs) bs

-- the point
record PointBack (bs : List ℕ) (found : List ℕ × List ℕ) : Type 0 where
  further : Option (List ℕ)
  are : AreDigits (unwrap_or further [])
  told : unwrap_or further [] ≡ found.0
  same : point_text further ++ found.1 ≡ bs

point_by : (b : ℕ) (bs : List ℕ) (t : Bool) → (b == 46) ≡ t
    → PointBack (b ∷ bs) (if t then digits bs else ([], b ∷ bs))
point_by b bs true h =
    let e : 46 ≡ b = grind (arith, nat_tests) in
    record {
      further = Some (digits bs).0;
      are = front_digits bs;
      told = refl;
      same =
          ap (λ cs. 46 ∷ cs) (digits_back bs) ∙ ap (λ c. c ∷ bs) e;
    }
point_by b bs false h = record { further = None; are = tt; told = refl; same = refl }

point_back : (bs : List ℕ) → PointBack bs (behind_point bs)
point_back [] = record { further = None; are = tt; told = refl; same = refl }
point_back (b ∷ bs) = point_by b bs (b == 46) refl

-- the exponent
pair_if : (t : Bool) (x y : ℕ × ℕ) → (if t then Some x else None) ≡ Some y → (t ≡ true) × (x ≡ y)
pair_if true x y h = (refl, cc)
pair_if false x y h = absurd cc

record PowerBack (negative : Bool) (ds : List ℕ) (e : ℕ × ℕ) : Type 0 where
  are : AreDigits ds
  some : 1 ≤ length ds
  few : length ds ≤ 4
  told : (if negative then (0, value ds) else (value ds, 0)) ≡ e

power_back : (negative : Bool) (ds : List ℕ) (e : ℕ × ℕ) → power negative ds ≡ Some e
    → PowerBack negative ds e
unfolding power
power_back negative ds e h =
    let test = pair_if
    (list_all is_ascii_digit ds && (nat_le 1 (length ds) && nat_le (length ds) 4))
    (if negative then (0, value ds) else (value ds, 0)) e h in
    let rest = and_right (list_all is_ascii_digit ds) (nat_le 1 (length ds) && nat_le (length ds) 4)
    test.0 in
    let one : nat_le 1 (length ds) ≡ true =
    and_left (nat_le 1 (length ds)) (nat_le (length ds) 4) rest in
    let four : nat_le (length ds) 4 ≡ true =
    and_right (nat_le 1 (length ds)) (nat_le (length ds) 4) rest in
    record {
      are = all_digits ds
          (and_left (list_all is_ascii_digit ds) (nat_le 1 (length ds) && nat_le (length ds) 4)
          test.0);
      some = grind (arith, nat_tests);
      few = grind (arith, nat_tests);
      told = test.1;
    }

record ExponentBack (bs : List ℕ) (found : ℕ × ℕ) : Type 0 where
  exponent : Option Exponent
  is : IsExponent exponent
  told : powers exponent ≡ found
  same : exponent_text exponent ≡ bs

-- the exponent with this letter
with_letter : (b : ℕ) (bs : List ℕ) (e : ℕ × ℕ) (capital : Bool) → letter capital ≡ b
    → power (signed bs).0 (signed bs).1 ≡ Some e → ExponentBack (b ∷ bs) e
with_letter b bs e capital l h =
    let s = signed_back bs in
    let p = power_back (signed bs).0 (signed bs).1 e h in
    record {
      exponent = Some record { capital = capital; sign = s.sign; power = (signed bs).1 };
      is = (p.are, p.some, p.few);
      told = ap (λ n. if n then (0, value (signed bs).1) else (value (signed bs).1, 0)) s.told
          ∙ p.told;
      same = ap (λ cs. letter capital ∷ cs) s.same ∙ ap (λ c. c ∷ bs) l;
    }

exponent_by : (b : ℕ) (bs : List ℕ) (e : ℕ × ℕ) (small capital : Bool) → (b == 101) ≡ small
    → (b == 69) ≡ capital
    → (if small || capital then power (signed bs).0 (signed bs).1 else None) ≡ Some e
    → ExponentBack (b ∷ bs) e
exponent_by b bs e true capital h k p =
    let l : 101 ≡ b = grind (arith, nat_tests) in
    with_letter b bs e false l p
exponent_by b bs e false true h k p =
    let l : 69 ≡ b = grind (arith, nat_tests) in
    with_letter b bs e true l p
exponent_by b bs e false false h k p = absurd cc

exponent_back : (bs : List ℕ) (e : ℕ × ℕ) → exponent bs ≡ Some e → ExponentBack bs e
unfolding exponent
exponent_back [] e h = record { exponent = None; is = tt; told = cc; same = refl }
exponent_back (b ∷ bs) e h = exponent_by b bs e (b == 101) (b == 69) refl refl h

-- the whole
some_after : (f : ℕ × ℕ → Option Parts) (o : Option (ℕ × ℕ)) (p : Parts)
    → option_and_then f o ≡ Some p → (e : ℕ × ℕ) × ((o ≡ Some e) × (f e ≡ Some p))
some_after f None p h = absurd cc
some_after f (Some e) p h = (e, (refl, h))

parts_if : (t : Bool) (x y : Parts) → (if t then Some x else None) ≡ Some y → (t ≡ true) × (x ≡ y)
parts_if true x y h = (refl, cc)
parts_if false x y h = absurd cc

option_if : (t : Bool) (o : Option Parts) (y : Parts) → (if t then o else None) ≡ Some y
    → (t ≡ true) × (o ≡ Some y)
option_if true o y h = (refl, h)
option_if false o y h = absurd cc

pub parts_are_spelled : (text : List ℕ) (p : Parts) → parts text ≡ Some p → Spelled text p
unfolding parts parts_of with_exponent
parts_are_spelled text p h =
    let short = option_if (nat_le (length text) 64) (parts_of text) p h in
    let rest : List ℕ = (signed text).1 in
    let front : List ℕ = (digits rest).0 in
    let behind : List ℕ = (digits rest).1 in
    let found : List ℕ = (behind_point behind).0 in
    let last : List ℕ = (behind_point behind).1 in
    let s = signed_back text in
    let f = point_back behind in
    let after = some_after (with_exponent (signed text).0 front found) (exponent last) p short.1 in
    let e = exponent_back last after.0 after.1.0 in
    let made : Bool → List ℕ → ℕ × ℕ → Parts =
    λ n fs x. record { negative = n; whole = front; fraction = fs; raise = x.0; lower = x.1 } in
    let some = parts_if (nat_le 1 (length front + length found))
    (made (signed text).0 found after.0) p after.1.1 in
    let whole : spelling_text record {
      sign = s.sign;
      whole = front;
      further = f.further;
      exponent =
          e.exponent;
    } ≡ text =
    ap (λ ys. sign_text s.sign ++ (front ++ (point_text f.further ++ ys))) e.same
    ∙ (ap (λ ys. sign_text s.sign ++ (front ++ ys)) f.same
    ∙ (ap (λ ys. sign_text s.sign ++ ys) (digits_back rest) ∙ s.same)) in
    record {
      spelling = record {
        sign = s.sign;
        whole = front;
        further = f.further;
        exponent =
            e.exponent;
      };
      is = record {
        whole = front_digits rest;
        further = f.are;
        some = rw f.told (let one : nat_le 1 (length front + length found) ≡ true =
            some.0 in grind (arith, nat_tests));
        exponent = e.is;
        short = rw whole (let test : nat_le (length text) 64 ≡ true =
            short.0 in grind (arith, nat_tests));
      };
      same = whole;
      told = ap (λ n. made n (unwrap_or f.further []) (powers e.exponent)) s.told
          ∙ (ap (λ fs. made (signed text).0 fs (powers e.exponent)) f.told
          ∙ (ap (λ x. made (signed text).0 found x) e.told ∙ some.1));
    }
