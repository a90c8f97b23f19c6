-- What the private functions of the reader speak of: the parts as they lie in the text, and their
-- ranges.
use Rattle.std.specs.Prelude.{◌≡◌, ◌<◌, ℕ, ◌+◌, ◌≤◌, nat_le, Bool, false, List, [], ◌∷◌, ◌++◌}
use Rattle.std.specs.Prelude.{length, Option, Some, None, if◌then◌else◌}
use Rattle.ldp_decimal.specs.declared.scan.Scanned.{Scanned}
use Rattle.ldp_decimal.specs.Grammar.{AreDigits, Parts}

-- the parts that lie in the text
abbrev pub parts_seen : Scanned → Parts
parts_seen s = record {
  negative = s.negative;
  whole = s.whole.now;
  fraction = s.fraction.now;
  raise = s.raise;
  lower = s.lower;
}

-- all the digits, without the point
abbrev pub digits_seen : Scanned → List ℕ
digits_seen s = s.whole.now ++ s.fraction.now

-- the ranges of what a text of at most 64 bytes holds
pub record InRange (s : Scanned) : Type 0 where
  pub whole : AreDigits s.whole.now
  pub fraction : AreDigits s.fraction.now
  pub few : length s.whole.now + length s.fraction.now ≤ 64
  pub raise : s.raise ≤ 9999
  pub lower : s.lower ≤ 9999

-- an answer is the number n, or None where n is above the limit
abbrev pub IsAtMost : ℕ → ℕ → Option ℕ → Type 0
IsAtMost limit n None = limit < n
IsAtMost limit n (Some m) = (m ≡ n) × (n ≤ limit)

-- whether the first of the digits that fall away is 5 or more
abbrev pub rounds_up : List ℕ → Bool
rounds_up [] = false
rounds_up (d ∷ ds) = nat_le 53 d

-- n rounded by the digits that fall away
unfoldable pub by_digit : ℕ → List ℕ → ℕ
by_digit n ds = if rounds_up ds then n + 1 else n
