-- The whole square root, rounded down.
use Rattle.std.specs.Prelude.{ℕ, zero, suc, ◌*◌, ◌≤◌, ◌<◌, Bool, nat_le, if◌then◌else◌}

-- the greatest k up to n that passes a test, and 0 where none does
unfoldable pub greatest_passing : (ℕ → Bool) → ℕ → ℕ
greatest_passing test zero = zero
greatest_passing test (suc n) = if test (suc n) then suc n else greatest_passing test n

-- the greatest w with w * w ≤ n
unfoldable pub root : ℕ → ℕ
root n = greatest_passing (λ w. nat_le (w * w) n) n

-- what the root is: its square is at most n, and the square of each greater number is above n
pub record IsRoot (n w : ℕ) : Type 0 where
  pub square : w * w ≤ n
  pub above : (k : ℕ) → w < k → n < k * k
