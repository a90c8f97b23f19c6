-- Rounding half away from zero: what the first digit that falls away decides.
use Rattle.std.proofs.Common.{◌≡◌, inl, inr, nat_le, if◌then◌else◌, length-append, length-drop}
use Rattle.std.proofs.Common.{take-append-drop, ℕ, suc, ◌+◌, ◌-◌, ◌*◌, ◌/◌, ◌^◌, ◌<◌, ◌≤◌, Bool}
use Rattle.std.proofs.Common.{true, false, List, [], ◌∷◌, ◌++◌, length, take, drop, refl, ap, subst}
use Rattle.std.proofs.Common.{sym, ◌∙◌, arith}
use Rattle.std.proofs.lemmas.Bool.Decides.{nat_tests}
use Rattle.std.proofs.lemmas.Bool.{cases_lt}
use Rattle.std.proofs.lemmas.Nat.{pow-add}
use Rattle.std.proofs.Math.Nat.{div-eq_of_lt-le, mul-div-mul_right, mul-le-mul_right}
use Rattle.std.proofs.Math.Nat.{mul-lt-mul_of_pos_right, one-le-pow, pow-le-pow_right, pow-suc}
use Rattle.std.proofs.Math.Nat.{mul_comm, mul_assoc}
use Rattle.ldp_decimal.proofs.Digits.{value_split, value_bound, value_append, digits_drop}
use Rattle.ldp_decimal.specs.Grammar.{AreDigits, value_after, value}
use Rattle.ldp_decimal.specs.Fraction.{rounded}
use Rattle.ldp_decimal.specs.Scanned.{by_digit, rounds_up}

pub rounded_exact : (m d : ℕ) → 0 < d → rounded (m * d) d ≡ m
unfolding rounded
rounded_exact m d h = div-eq_of_lt-le (2 * d) (omega arith) (omega arith)

pub rounded_cancel : (m n c : ℕ) → 0 < c → rounded (m * c) (n * c) ≡ rounded m n
unfolding rounded
rounded_cancel m n c h =
    let top : 2 * (m * c) + n * c ≡ (2 * m + n) * c = omega arith in
    let below : 2 * (n * c) ≡ (2 * n) * c = omega arith in
    rw (top, below) (mul-div-mul_right (2 * m + n) (2 * n) h)

pub rounded_tiny : (n d : ℕ) → 2 * n < d → rounded n d ≡ 0
unfolding rounded
rounded_tiny n d h = div-eq_of_lt-le (2 * d) (omega arith) (omega arith)

-- the first digit that falls away, with what stands behind it, is a half or not
decided : (n d p r : ℕ) → (48 ≤ d) × (d ≤ 57) → r < p
    → (2 * ((n * 10 + (d - 48)) * p + r) + p * 10) / (2 * (p * 10))
    ≡ (if nat_le 53 d then n + 1 else n)
decided n d p r h small = elim (cases_lt d 53) [
  | inl low ↦
      let no : nat_le 53 d ≡ false = grind (arith, nat_tests) in
      let most : (d - 48) * p ≤ 4 * p = mul-le-mul_right p (omega arith) in
      rw no (div-eq_of_lt-le (2 * (p * 10)) (omega arith) (omega arith))
  | inr high ↦
      let yes : nat_le 53 d ≡ true = grind (arith, nat_tests) in
      let least : 5 * p ≤ (d - 48) * p = mul-le-mul_right p (omega arith) in
      let most : (d - 48) * p ≤ 9 * p = mul-le-mul_right p (omega arith) in
      rw yes (div-eq_of_lt-le (2 * (p * 10)) (omega arith) (omega arith))
]

up_or_not : (n : ℕ) (b : Bool) → n ≤ (if b then n + 1 else n)
up_or_not n true = omega arith
up_or_not n false = omega arith

-- the first digit that falls away decides
pub rounds : (n : ℕ) (ds : List ℕ) → AreDigits ds → rounded (value_after n ds) (10 ^ length ds)
    ≡ by_digit n ds
unfolding by_digit rounded
rounds n [] h = div-eq_of_lt-le 2 (omega arith) (omega arith)
rounds n (d ∷ ds) h =
    let p : ℕ = 10 ^ length ds in
    let power : 10 ^ suc (length ds) ≡ 10 ^ length ds * 10 = pow-suc 10 (length ds) in
    let split : value_after (n * 10 + (d - 48)) ds ≡ (n * 10 + (d - 48)) * 10 ^ length ds
    + value_after 0 ds = value_split (n * 10 + (d - 48)) ds in
    let rest : value_after 0 ds < 10 ^ length ds = value_bound ds h.1 in
    rw (power, split) (decided n d (10 ^ length ds) (value_after 0 ds) h.0 rest)

pub by_digit_grows : (n : ℕ) (ds : List ℕ) → n ≤ by_digit n ds
unfolding by_digit
by_digit_grows n ds = up_or_not n (rounds_up ds)

pub by_digit_up : (n : ℕ) (ds : List ℕ) → rounds_up ds ≡ true → by_digit n ds ≡ n + 1
unfolding by_digit
by_digit_up n ds h = rw h refl

pub by_digit_down : (n : ℕ) (ds : List ℕ) → rounds_up ds ≡ false → by_digit n ds ≡ n
unfolding by_digit
by_digit_down n ds h = rw h refl

-- less than a tenth
tiny : (v up lower w f : ℕ) → v < 10 ^ (w + f) → w + up < lower
    → rounded (v * 10 ^ up) (10 ^ (f + lower)) ≡ 0
tiny v up lower w f small low =
    let x : ℕ = w + f + up in
    let scaled : v * 10 ^ up < 10 ^ (w + f) * 10 ^ up =
    mul-lt-mul_of_pos_right small (one-le-pow up 10 (omega arith)) in
    let sum : 10 ^ (w + f + up) ≡ 10 ^ (w + f) * 10 ^ up = pow-add 10 (w + f) up in
    let next : 10 ^ suc (w + f + up) ≡ 10 ^ (w + f + up) * 10 = pow-suc 10 (w + f + up) in
    let wide : 10 ^ suc (w + f + up) ≤ 10 ^ (f + lower) =
    pow-le-pow_right (omega arith) (omega arith) in
    rounded_tiny (v * 10 ^ up) (10 ^ (f + lower)) (omega arith)

near : (v up n d : ℕ) → d ≡ up + n → rounded (v * 10 ^ up) (10 ^ d) ≡ rounded v (10 ^ n)
near v up n d e =
    let split : 10 ^ d ≡ 10 ^ n * 10 ^ up =
    ap (λ k. 10 ^ k) e ∙ (pow-add 10 up n ∙ mul_comm (10 ^ up) (10 ^ n)) in
    rw split (rounded_cancel v (10 ^ n) (10 ^ up) (one-le-pow up 10 (omega arith)))

exact : (v up z d : ℕ) → up ≡ z + d → rounded (v * 10 ^ up) (10 ^ d) ≡ v * 10 ^ z
exact v up z d e =
    let split : v * 10 ^ up ≡ v * 10 ^ z * 10 ^ d =
    ap (λ k. v * 10 ^ k) e
    ∙ (ap (λ p. v * p) (pow-add 10 z d) ∙ sym (mul_assoc v (10 ^ z) (10 ^ d))) in
    rw split (rounded_exact (v * 10 ^ z) (10 ^ d) (one-le-pow d 10 (omega arith)))

raised : (v raise places : ℕ) → v * 10 ^ raise * 10 ^ places ≡ v * 10 ^ (raise + places)
raised v raise places =
    mul_assoc v (10 ^ raise) (10 ^ places) ∙ ap (λ p. v * p) (sym (pow-add 10 raise places))

raise_first : (v raise places d : ℕ) → rounded (v * 10 ^ raise * 10 ^ places) d
    ≡ rounded (v * 10 ^ (raise + places)) d
raise_first v raise places d = ap (λ n. rounded n d) (raised v raise places)

-- what `magnitude` is at the parts of a text: the number of all digits, where so many digits stand
-- before the point
pub magnitude_tiny : (ws fs : List ℕ) (raise lower places : ℕ) → AreDigits (ws ++ fs)
    → length ws + raise + places < lower
    → rounded (value (ws ++ fs) * 10 ^ raise * 10 ^ places) (10 ^ (length fs + lower)) ≡ 0
magnitude_tiny ws fs raise lower places ds low =
    let small : value (ws ++ fs) < 10 ^ (length ws + length fs) =
    let P : ℕ → Type 0 = λ k. value (ws ++ fs) < 10 ^ k in
    subst P (length-append ws fs) (value_bound (ws ++ fs) ds) in
    rw (raised (value (ws ++ fs)) raise places)
    (tiny (value (ws ++ fs)) (raise + places) lower (length ws) (length fs) small (omega arith))

pub magnitude_near : (ws fs : List ℕ) (raise lower places kept : ℕ) → AreDigits (ws ++ fs)
    → kept + lower ≡ length ws + raise + places → kept ≤ length ws + length fs
    → rounded (value (ws ++ fs) * 10 ^ raise * 10 ^ places) (10 ^ (length fs + lower))
    ≡ by_digit (value (take kept (ws ++ fs))) (drop kept (ws ++ fs))
magnitude_near ws fs raise lower places kept ds left few =
    let size : length (ws ++ fs) ≡ length ws + length fs = length-append ws fs in
    let rest : length (drop kept (ws ++ fs)) ≡ length (ws ++ fs) - kept =
    length-drop kept (ws ++ fs) in
    let below : length fs + lower ≡ (raise + places) + length (drop kept (ws ++ fs)) =
    omega arith in
    let parted : value (ws ++ fs) ≡ value_after (value (take kept (ws ++ fs)))
    (drop kept (ws ++ fs)) =
    ap (λ es. value es) (sym (take-append-drop kept (ws ++ fs)))
    ∙ value_append 0 (take kept (ws ++ fs)) (drop kept (ws ++ fs)) in
    raise_first (value (ws ++ fs)) raise places (10 ^ (length fs + lower))
    ∙ near (value (ws ++ fs)) (raise + places) (length (drop kept (ws ++ fs))) (length fs + lower)
    below
    ∙ ap (λ v. rounded v (10 ^ length (drop kept (ws ++ fs)))) parted
    ∙ rounds (value (take kept (ws ++ fs))) (drop kept (ws ++ fs)) (digits_drop kept (ws ++ fs) ds)

pub magnitude_exact : (ws fs : List ℕ) (raise lower places zeros : ℕ)
    → length ws + length fs + zeros + lower ≡ length ws + raise + places
    → rounded (value (ws ++ fs) * 10 ^ raise * 10 ^ places) (10 ^ (length fs + lower))
    ≡ value (ws ++ fs) * 10 ^ zeros
magnitude_exact ws fs raise lower places zeros left =
    raise_first (value (ws ++ fs)) raise places (10 ^ (length fs + lower))
    ∙ exact (value (ws ++ fs)) (raise + places) zeros (length fs + lower) (omega arith)
