-- Sums and products of whole numbers, their order, and quotients rounded down. (The usual laws.)
use Rattle.std.specs.Prelude.{◌≡◌, ℕ, ◌<◌, ℤ, pos, neg_ℤ, ◌+ℤ◌, ◌-ℤ◌, ◌*ℤ◌, ◌≤ℤ◌, ◌<ℤ◌}
use Rattle.ldp_num.specs.Plain.{floor_div}

-- in a product of three it does not matter which two are multiplied first
abbrev pub TimesAssociate : Type 0
TimesAssociate = (a b c : ℤ) → (a *ℤ b) *ℤ c ≡ a *ℤ (b *ℤ c)

-- the outer factors of a product of three may be taken in either order
abbrev pub TimesSwap : Type 0
TimesSwap = (a b c : ℤ) → a *ℤ (b *ℤ c) ≡ b *ℤ (a *ℤ c)

-- a factor with a sum
abbrev pub TimesSum : Type 0
TimesSum = (a b c : ℤ) → a *ℤ (b +ℤ c) ≡ (a *ℤ b) +ℤ (a *ℤ c)

-- a sum with a factor
abbrev pub SumTimes : Type 0
SumTimes = (a b c : ℤ) → (a +ℤ b) *ℤ c ≡ (a *ℤ c) +ℤ (b *ℤ c)

-- a factor with a difference
abbrev pub TimesDifference : Type 0
TimesDifference = (a b c : ℤ) → a *ℤ (b -ℤ c) ≡ (a *ℤ b) -ℤ (a *ℤ c)

-- a factor with a negated number
abbrev pub TimesNegated : Type 0
TimesNegated = (a b : ℤ) → a *ℤ neg_ℤ b ≡ neg_ℤ (a *ℤ b)

-- a factor that is not below 0 keeps the order
abbrev pub TimesUp : Type 0
TimesUp = (x y k : ℤ) → x ≤ℤ y → pos 0 ≤ℤ k → (x *ℤ k) ≤ℤ (y *ℤ k)

-- a factor that is not above 0 turns the order round
abbrev pub TimesDown : Type 0
TimesDown = (x y k : ℤ) → x ≤ℤ y → k ≤ℤ pos 0 → (y *ℤ k) ≤ℤ (x *ℤ k)

-- what is greater times a number above 0 is greater
abbrev pub TimesCancel : Type 0
TimesCancel = (x y k : ℤ) → pos 1 ≤ℤ k → (x *ℤ k) ≤ℤ (y *ℤ k) → x ≤ℤ y

-- the quotient rounded down is the whole number whose product with the divisor is at most the
-- dividend, and less than one divisor below it
pub record IsFloor (z : ℤ) (d : ℕ) (q : ℤ) : Type 0 where
  pub low : (q *ℤ pos d) ≤ℤ z
  pub high : z <ℤ ((q *ℤ pos d) +ℤ pos d)

-- `floor_div` rounds down so, by each divisor above 0
abbrev pub FloorIs : Type 0
FloorIs = (z : ℤ) (d : ℕ) → 0 < d → IsFloor z d (floor_div z d)
