-- The whole root is what its name says; and a root from an estimate and the remainder that it
-- leaves.
use Rattle.std.proofs.Common.{◌≡◌, ℕ, zero, suc, ◌+◌, ◌-◌, ◌*◌, ◌<◌, ◌≤◌, Bool, true, false, ◌⊎◌}
use Rattle.std.proofs.Common.{inl, inr, refl, arith}
use Rattle.std.specs.Prelude.{nat_le, if◌then◌else◌}
use Rattle.std.proofs.lemmas.Bool.{leb-true, leb-false, le-leb, cases_lt, cases_order}
use Rattle.std.proofs.Math.Nat.{mul-le-mul}
use Rattle.ldp_num.specs.Root.{greatest_passing, root, IsRoot}

passes-chosen : (passes : ℕ → Bool) (n : ℕ) (b : Bool) → passes (suc n) ≡ b
    → passes (greatest_passing passes n) ≡ true
    → passes (if b then suc n else greatest_passing passes n) ≡ true
passes-chosen passes n true e h = e
passes-chosen passes n false e h = h

greatest_passing-passes : (passes : ℕ → Bool) (n : ℕ) → passes zero ≡ true
    → passes (greatest_passing passes n) ≡ true
unfolding greatest_passing
greatest_passing-passes passes zero h = h
greatest_passing-passes passes (suc n) h =
    passes-chosen passes n (passes (suc n)) refl (greatest_passing-passes passes n h)

above-chosen : (passes : ℕ → Bool) (n k : ℕ) (b : Bool) → passes (suc n) ≡ b
    → (if b then suc n else greatest_passing passes n) < k → k ≤ suc n
    → (greatest_passing passes n < k → k ≤ n → passes k ≡ false) → passes k ≡ false
above-chosen passes n k true e l h below = absurd (omega arith)
above-chosen passes n k false e l h below = grind (arith, e, below l)

greatest_passing-above : (passes : ℕ → Bool) (n k : ℕ) → greatest_passing passes n < k → k ≤ n
    → passes k ≡ false
unfolding greatest_passing
greatest_passing-above passes zero k l h = absurd (omega arith)
greatest_passing-above passes (suc n) k l h =
    above-chosen passes n k (passes (suc n)) refl l h (greatest_passing-above passes n k)

pub root-square : (n : ℕ) → root n * root n ≤ n
unfolding root
root-square n =
    leb-true _ _ (greatest_passing-passes (λ w. nat_le (w * w) n) n (le-leb 0 n (omega arith)))

above-within : (n k : ℕ) → root n < k → (n < k) ⊎ (k ≤ n) → n < k * k
unfolding root
above-within n k l (inl h) =
    let square : 1 * k ≤ k * k = mul-le-mul (omega arith) (omega arith) in
    omega arith
above-within n k l (inr h) =
    leb-false (k * k) n (greatest_passing-above (λ w. nat_le (w * w) n) n k l h)

pub root-above : (n k : ℕ) → root n < k → n < k * k
root-above n k l = above-within n k l (cases_lt n k)

is-chosen : (n w : ℕ) → w * w ≤ n → n < (w + 1) * (w + 1)
    → (root n ≡ w) ⊎ ((root n < w) ⊎ (w < root n)) → root n ≡ w
is-chosen n w h l (inl e) = e
is-chosen n w h l (inr (inl less)) =
    let above : n < w * w = root-above n w less in
    absurd (omega arith)
is-chosen n w h l (inr (inr more)) =
    let next : (w + 1) * (w + 1) ≤ root n * root n = mul-le-mul (omega arith) (omega arith) in
    let square : root n * root n ≤ n = root-square n in
    absurd (omega arith)

pub root-is : (n w : ℕ) → w * w ≤ n → n < (w + 1) * (w + 1) → root n ≡ w
root-is n w h l = is-chosen n w h l (cases_order (root n) w)

pub is-root : (n : ℕ) → IsRoot n (root n)
is-root n = record { square = root-square n; above = root-above n }

pub root-at : (n w : ℕ) → w * w ≤ n → n - w * w ≤ 2 * w → root n ≡ w
root-at n w h k =
    let e : (w + 1) * (w + 1) ≡ w * w + 2 * w + 1 = omega arith in
    root-is n w h (rw e (omega arith))

pub root-next : (n w : ℕ) → w * w ≤ n → 2 * w < n - w * w → n - w * w < 4 * w + 4 → root n ≡ w + 1
root-next n w h l k =
    let e : (w + 1) * (w + 1) ≡ w * w + 2 * w + 1 = omega arith in
    let f : (w + 1 + 1) * (w + 1 + 1) ≡ w * w + 4 * w + 4 = omega arith in
    root-is n (w + 1) (rw e (omega arith)) (rw f (omega arith))

pub ruleset roots = (root-at, root-next, root-is)
