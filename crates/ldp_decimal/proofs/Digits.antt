-- Decimal digits: tests of them, and the number that they stand for.
use Rattle.std.proofs.Common.{◌≡◌, inl, inr, get_or, ℕ, zero, suc, min, ◌+◌, ◌-◌, ◌*◌, ◌^◌, ◌<◌}
use Rattle.std.proofs.Common.{◌≤◌, ◌&&◌, Bool, true, false, cond, List, [], ◌∷◌, ◌++◌, length, take}
use Rattle.std.proofs.Common.{drop, refl, ap, sym, ◌∙◌, arith}
use Rattle.std.proofs.Math.Nat.{pow-suc, mul-le-mul_right, le-mul_of_pos_right, one-le-pow}
use Rattle.std.proofs.Math.Nat.{pow-le-pow_right}
use Rattle.std.proofs.Math.Seq.{drop-cons, take-append-add, drop-append-add}
use Rattle.std.proofs.lemmas.Bool.{cases_lt}
use Rattle.std.proofs.lemmas.List.{take-append-le, take_all, append-nil}
use Rattle.std.proofs.lemmas.Bool.Decides.{nat_tests}
use Rattle.std.specs.List.{prefix_len, list_all}
use Rattle.std.specs.Char.{is_ascii_digit}
use Rattle.ldp_decimal.specs.Grammar.{AreDigits, value_after}

digit_range : (b : ℕ) → is_ascii_digit b ≡ true → (48 ≤ b) × (b ≤ 57)
digit_range b h = grind (arith, nat_tests)

front_step : (b : ℕ) (bs : List ℕ) (t : Bool) → is_ascii_digit b ≡ t
    → AreDigits (take (prefix_len is_ascii_digit bs) bs)
    → AreDigits (take (cond t (1 + prefix_len is_ascii_digit bs) 0) (b ∷ bs))
front_step b bs true h more =
    let e : 1 + prefix_len is_ascii_digit bs ≡ suc (prefix_len is_ascii_digit bs) = omega arith in
    rw e (digit_range b h, more)
front_step b bs false h more = tt

-- the digits in front of a list are digits
pub front_digits : (bs : List ℕ) → AreDigits (take (prefix_len is_ascii_digit bs) bs)
front_digits [] = tt
front_digits (b ∷ bs) = front_step b bs (is_ascii_digit b) refl (front_digits bs)

pub and_left : (a b : Bool) → (a && b) ≡ true → a ≡ true
and_left true b h = refl
and_left false b h = h

pub and_right : (a b : Bool) → (a && b) ≡ true → b ≡ true
and_right true b h = h
and_right false b h = cc

-- a list whose test says so has digits alone
pub all_digits : (bs : List ℕ) → list_all is_ascii_digit bs ≡ true → AreDigits bs
all_digits [] h = tt
all_digits (b ∷ bs) h = (digit_range b (and_left _ _ h), all_digits bs (and_right _ _ h))

-- further digits make a number no smaller
pub value_grows : (n : ℕ) (ds : List ℕ) → n ≤ value_after n ds
value_grows n [] = omega arith
value_grows n (d ∷ ds) =
    let more : n * 10 + (d - 48) ≤ value_after (n * 10 + (d - 48)) ds =
    value_grows (n * 10 + (d - 48)) ds in
    omega arith

pub value_append : (n : ℕ) (ds es : List ℕ)
    → value_after n (ds ++ es) ≡ value_after (value_after n ds) es
value_append n [] es = refl
value_append n (d ∷ ds) es = value_append (n * 10 + (d - 48)) ds es

-- the digits so far stand in front
pub value_split : (n : ℕ) (ds : List ℕ) → value_after n ds ≡ n * 10 ^ length ds + value_after 0 ds
value_split n [] = omega arith
value_split n (d ∷ ds) =
    let one : value_after (n * 10 + (d - 48)) ds ≡ (n * 10 + (d - 48)) * 10 ^ length ds
    + value_after 0 ds = value_split (n * 10 + (d - 48)) ds in
    let two : value_after (0 * 10 + (d - 48)) ds ≡ (0 * 10 + (d - 48)) * 10 ^ length ds
    + value_after 0 ds = value_split (0 * 10 + (d - 48)) ds in
    let power : n * 10 ^ suc (length ds) ≡ n * (10 ^ length ds * 10) =
    ap (λ p. n * p) (pow-suc 10 (length ds)) in
    let goal : (n * 10 + (d - 48)) * 10 ^ length ds + value_after 0 ds ≡ n * 10 ^ suc (length ds)
    + value_after (0 * 10 + (d - 48)) ds = omega (arith, one, two, power) in
    one ∙ goal

pub value_bound : (ds : List ℕ) → AreDigits ds → value_after 0 ds < 10 ^ length ds
value_bound [] h = omega arith
value_bound (d ∷ ds) h =
    let two : value_after (0 * 10 + (d - 48)) ds ≡ (0 * 10 + (d - 48)) * 10 ^ length ds
    + value_after 0 ds = value_split (0 * 10 + (d - 48)) ds in
    let power : 10 ^ suc (length ds) ≡ 10 ^ length ds * 10 = pow-suc 10 (length ds) in
    let more : value_after 0 ds < 10 ^ length ds = value_bound ds h.1 in
    let small : (d - 48) * 10 ^ length ds ≤ 9 * 10 ^ length ds =
    mul-le-mul_right (10 ^ length ds) (omega arith) in
    omega arith

pub digits_take : (n : ℕ) (ds : List ℕ) → AreDigits ds → AreDigits (take n ds)
digits_take zero ds h = tt
digits_take (suc n) [] h = tt
digits_take (suc n) (d ∷ ds) h = (h.0, digits_take n ds h.1)

pub digits_drop : (n : ℕ) (ds : List ℕ) → AreDigits ds → AreDigits (drop n ds)
digits_drop zero ds h = h
digits_drop (suc n) [] h = tt
digits_drop (suc n) (d ∷ ds) h = digits_drop n ds h.1

pub digits_append : (ds es : List ℕ) → AreDigits ds → AreDigits es → AreDigits (ds ++ es)
digits_append [] es h k = k
digits_append (d ∷ ds) es h k = (h.0, digits_append ds es h.1 k)

front_split : (count : ℕ) (ws fs : List ℕ) (part : ℕ) → part ≡ min count (length ws)
    → take count (ws ++ fs) ≡ take part ws ++ take (count - part) fs
front_split count ws fs part e = elim (cases_lt (length ws) count) [
  | inl long ↦
      let all : part ≡ length ws = omega arith in
      let left : count ≡ length ws + (count - length ws) = omega arith in
      let whole : take count (ws ++ fs) ≡ take (length ws + (count - length ws)) (ws ++ fs) =
      ap (λ k. take k (ws ++ fs)) left in
      let cut : take (length ws + (count - length ws)) (ws ++ fs) ≡ ws ++ take (count - length ws)
      fs = take-append-add ws fs (count - length ws) in
      let front : take part ws ≡ ws = take_all part ws (omega arith) in
      let rest : take (count - part) fs ≡ take (count - length ws) fs =
      ap (λ k. take (count - k) fs) all in
      cc
  | inr short ↦
      let all : part ≡ count = omega arith in
      let none : count - part ≡ 0 = omega arith in
      let cut : take count (ws ++ fs) ≡ take count ws = take-append-le count ws fs short in
      let front : take part ws ≡ take count ws = ap (λ k. take k ws) all in
      let rest : take (count - part) fs ≡ [] = ap (λ k. take k fs) none in
      let end : take part ws ++ [] ≡ take part ws = append-nil (take part ws) in
      cc
]

-- the number of the first digits of two lists
pub front_value : (count : ℕ) (ws fs : List ℕ) (part : ℕ) → part ≡ min count (length ws)
    → value_after 0 (take count (ws ++ fs)) ≡ value_after (value_after 0 (take part ws))
    (take (count - part) fs)
front_value count ws fs part e = ap (λ ds. value_after 0 ds) (front_split count ws fs part e)
    ∙ value_append 0 (take part ws) (take (count - part) fs)

-- a digit more takes the number over the limit
pub step_over : (n : ℕ) (ds : List ℕ) (i limit total : ℕ) → i < length ds
    → value_after n (drop i ds) ≡ total → limit < n * 10 + (get_or ds i 0 - 48) → limit < total
step_over n ds i limit total h e over =
    let more : n * 10 + (get_or ds i 0 - 48) ≤ value_after (n * 10 + (get_or ds i 0 - 48))
    (drop (suc i) ds) = value_grows (n * 10 + (get_or ds i 0 - 48)) (drop (suc i) ds) in
    let same : value_after n (get_or ds i 0 ∷ drop (suc i) ds) ≡ total =
    ap (λ es. value_after n es) (sym (drop-cons ds i 0 h)) ∙ e in
    omega arith

pub drop_behind : (index : ℕ) (ws fs : List ℕ) → length ws ≤ index
    → drop index (ws ++ fs) ≡ drop (index - length ws) fs
drop_behind index ws fs h =
    let left : index ≡ length ws + (index - length ws) = omega arith in
    ap (λ k. drop k (ws ++ fs)) left ∙ drop-append-add ws fs (index - length ws)

-- zeros at the end make a number no smaller
pub shifted_grows : (v zeros : ℕ) → v ≤ v * 10 ^ zeros
shifted_grows v zeros = le-mul_of_pos_right v (one-le-pow zeros 10 (omega arith))

-- twenty zeros take any number but 0 above every limit
pub shifted_far : (v zeros : ℕ) → 0 < v → 19 < zeros → 100000000000000000000 ≤ v * 10 ^ zeros
shifted_far v zeros some many =
    let power : 10 ^ 20 ≤ 10 ^ zeros = pow-le-pow_right (omega arith) many in
    let more : 1 * 10 ^ zeros ≤ v * 10 ^ zeros = mul-le-mul_right (10 ^ zeros) some in
    omega arith
