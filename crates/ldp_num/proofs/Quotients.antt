-- A quotient from an estimate and the remainder that it leaves.
use Rattle.std.proofs.Common.{◌≡◌, ℕ, ◌+◌, ◌-◌, ◌*◌, ◌/◌, ◌<◌, ◌≤◌, arith}
use Rattle.std.proofs.lemmas.Nat.{div-mul-add}

pub quotient-at : (n d q : ℕ) → q * d ≤ n → n - q * d < d → n / d ≡ q
quotient-at n d q h k =
    let e : q * d + (n - q * d) ≡ n = omega arith in
    rw e at (div-mul-add q d (n - q * d) k)

pub quotient-next : (n d q : ℕ) → q * d ≤ n → d ≤ n - q * d → n - q * d < 2 * d → n / d ≡ q + 1
quotient-next n d q h l k =
    let e : (q + 1) * d ≡ q * d + d = omega arith in
    quotient-at n d (q + 1) (rw e (omega arith)) (rw e (omega arith))

pub ruleset quotients = (quotient-at, quotient-next)
