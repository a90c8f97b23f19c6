-- The first bytes of a token, with one more.
use Rattle.std.proofs.Common.{◌≡◌, ℕ, ◌+◌, ◌<◌, ◌≤◌, min, nat_lt, true, false, List}
use Rattle.std.proofs.Common.{length, take, set, arith, refl}
use Rattle.std.proofs.lemmas.Bool.Decides.{nat_tests}
use Rattle.std.proofs.lemmas.List.{take_more_set}
use Rattle.ldp_heights.specs.Known.{kept_first}

-- there is room for the byte
pub kept_under : (first : List ℕ) (len byte : ℕ) → length first ≡ 65 → len < 65
    → take (min (len + 1) 65) (set first len byte) ≡ kept_first (take (min len 65) first) len byte
kept_under first len byte h under =
    let test : nat_lt len 65 ≡ true = grind (arith, nat_tests) in
    let more : min (len + 1) 65 ≡ len + 1 = omega arith in
    let same : min len 65 ≡ len = omega arith in
    let within : len < length first = omega (arith, h) in
    rw (test, more, same) (take_more_set first len byte within)

-- there is none
pub kept_over : (first : List ℕ) (len byte : ℕ) → 65 ≤ len
    → take (min (len + 1) 65) first ≡ kept_first (take (min len 65) first) len byte
kept_over first len byte over =
    let test : nat_lt len 65 ≡ false = grind (arith, nat_tests) in
    let more : min (len + 1) 65 ≡ 65 = omega arith in
    let same : min len 65 ≡ 65 = omega arith in
    rw (test, more, same) refl
