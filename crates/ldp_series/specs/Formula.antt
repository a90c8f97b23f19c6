-- How a formula is written as steps: an expression appends its left operand's steps, then its right
-- operand's, then its own step; a name stands for a place and appends nothing; a number appends a
-- constant at each use. (Own choice of this project.)
use Rattle.std.specs.Prelude.{◌≡◌, ℕ, ◌*◌, ℤ, pos, ◌*ℤ◌, ◌++◌, [], ◌∷◌, length}
use Rattle.std.proofs.Common.{ap, ◌∙◌}
use Rattle.ldp_num.specs.Number.{one}
use Rattle.ldp_num.specs.Plain.{floor_div}
use Rattle.ldp_num.specs.declared.step.Step.{Step}
use Rattle.ldp_num.specs.declared.step.Step.TheVariants.{Const, Add, Sub, Mul, Div, Sq, Sqrt, Need}
use Rattle.ldp_series.specs.Draft.{Draft, Formula}

-- one step, at the place after all steps so far
abbrev pub step : Step → Formula ℕ
step s draft = (record { inputs = draft.inputs; steps = draft.steps ++ s ∷ [] }, length draft.steps)

-- nothing is appended, and this is answered
abbrev pub answer : {A : Type 0} → A → Formula A
answer a draft = (draft, a)

-- first one formula, then the next with the answer of the first
infixl 10 ◌>>=◌
unfoldable pub ◌>>=◌ : {A B : Type 0} → Formula A → (A → Formula B) → Formula B
(first >>= next) draft = let made = first draft in next made.1 made.0

-- The law of `>>=`: where the first makes this draft and answer, the whole makes what the rest
-- makes of them. It is over all types of answers, which no clause of a contract can say, so it
-- stands beside what it is the law of.
pub then : {A B : Type 0} (first : Formula A) (next : A → Formula B) (old : Draft) {mid : Draft}
    {a : A} {made : Draft × B} → (mid, a) ≡ first old → made ≡ next a mid
    → made ≡ (first >>= next) old
unfolding ◌>>=◌
then first next old h k = k ∙ ap (λ m. next m.1 m.0) h

-- the result at a place
abbrev pub # : ℕ → Formula ℕ
# place = answer place

-- a constant, in units
abbrev pub units : ℤ → Formula ℕ
units v = step (Const v)

-- a whole number as a constant
abbrev pub whole : ℕ → Formula ℕ
whole v = units (pos (v * one))

-- p / q in units, rounded down
abbrev pub fraction_units : ℤ → ℕ → ℤ
fraction_units p q = floor_div (p *ℤ pos one) q

-- the fraction p / q as a constant, rounded down; q is above 0
abbrev pub fraction : ℕ → ℕ → Formula ℕ
fraction p q = units (fraction_units (pos p) q)

-- the steps of an operand, then the operation on its result
abbrev pub of_one : (ℕ → Step) → Formula ℕ → Formula ℕ
of_one operation a = do
  x ← a
  step (operation x)

-- the steps of the left operand, those of the right one, then the operation on both results
abbrev pub of_two : (ℕ → ℕ → Step) → Formula ℕ → Formula ℕ → Formula ℕ
of_two operation a b = do
  x ← a
  y ← b
  step (operation x y)

-- a sum; sums and differences bind less than products and quotients
infixl 65 ◌+ᶠ◌ ◌-ᶠ◌
infixl 70 ◌*ᶠ◌ ◌/ᶠ◌
abbrev pub ◌+ᶠ◌ : Formula ℕ → Formula ℕ → Formula ℕ
◌+ᶠ◌ = of_two Add

-- a difference
abbrev pub ◌-ᶠ◌ : Formula ℕ → Formula ℕ → Formula ℕ
◌-ᶠ◌ = of_two Sub

-- a product
abbrev pub ◌*ᶠ◌ : Formula ℕ → Formula ℕ → Formula ℕ
◌*ᶠ◌ = of_two Mul

-- a quotient, defined if the divisor is above 0
abbrev pub ◌/ᶠ◌ : Formula ℕ → Formula ℕ → Formula ℕ
◌/ᶠ◌ = of_two Div

-- a square, which takes one step
abbrev pub square : Formula ℕ → Formula ℕ
square = of_one Sq

-- a square root, defined if its operand is at least 0
abbrev pub √ : Formula ℕ → Formula ℕ
√ = of_one Sqrt

-- the domain of a formula: this is at least 0
abbrev pub at_least_zero : Formula ℕ → Formula ℕ
at_least_zero = of_one Need
