-- The arithmetic of each operation, over numbers alone: how far the value of the result is from its
-- centre, by how far those of the operands are, and what the error pays.
use Rattle.std.proofs.Common.{◌≡◌, ℤ, pos, neg_ℤ, ◌+ℤ◌, ◌-ℤ◌, ◌*ℤ◌, ◌≤ℤ◌, arith}
use Rattle.std.specs.Prelude.{unsigned_abs}
use Rattle.std.proofs.Math.IntN.{*ℤ_comm}
use Rattle.std.proofs.lemmas.Int.{ints}
use Rattle.ldp_num.specs.Number.{one}
use Rattle.ldp_num.specs.Ring.{IsFloor}
use Rattle.ldp_num.proofs.Ring.{sum_times, times_up}
use Rattle.ldp_num.proofs.Ring.{times_difference}
use Rattle.ldp_centred.proofs.Meeting.{LowHolds, HighHolds}

-- a sum of whole numbers is what it is: nothing is paid
pub add-low : (v w k l e f u c g : ℤ) → u ≡ v +ℤ w → c ≡ k +ℤ l → g ≡ e +ℤ f
    → LowHolds (pos 1) (pos 1) (pos 1) (v -ℤ k) (w -ℤ l) e f (u -ℤ c) g
add-low v w k l e f u c g a b d = omega (arith, ints)

pub add-high : (v w k l e f u c g : ℤ) → u ≡ v +ℤ w → c ≡ k +ℤ l → g ≡ e +ℤ f
    → HighHolds (pos 1) (pos 1) (pos 1) (v -ℤ k) (w -ℤ l) e f (u -ℤ c) g
add-high v w k l e f u c g a b d = omega (arith, ints)

pub sub-low : (v w k l e f u c g : ℤ) → u ≡ v -ℤ w → c ≡ k -ℤ l → g ≡ e +ℤ f
    → LowHolds (pos 1) (pos 1) (neg_ℤ (pos 1)) (v -ℤ k) (w -ℤ l) e f (u -ℤ c) g
sub-low v w k l e f u c g a b d = omega (arith, ints)

pub sub-high : (v w k l e f u c g : ℤ) → u ≡ v -ℤ w → c ≡ k -ℤ l → g ≡ e +ℤ f
    → HighHolds (pos 1) (pos 1) (neg_ℤ (pos 1)) (v -ℤ k) (w -ℤ l) e f (u -ℤ c) g
sub-high v w k l e f u c g a b d = omega (arith, ints)

-- the whole product of a with b, less that of k with l
split : (v w k l : ℤ) → (l *ℤ (v -ℤ k)) +ℤ (v *ℤ (w -ℤ l)) ≡ (v *ℤ w) -ℤ (k *ℤ l)
split v w k l =
    omega (arith, ints, times_difference l v k, times_difference v w l, *ℤ_comm l v, *ℤ_comm l k)

-- the error of a product: p and q are rounded down
pub error-mul : (v l r p q e f : ℤ) → pos 0 ≤ℤ f → pos (unsigned_abs v) ≤ℤ r
    → IsFloor (r *ℤ f) one p → IsFloor (pos (unsigned_abs l) *ℤ e) one q
    → (((pos (unsigned_abs l) *ℤ e) +ℤ (pos (unsigned_abs v) *ℤ f)) +ℤ pos one)
    ≤ℤ (pos one *ℤ (p +ℤ q +ℤ pos 3))
error-mul v l r p q e f n m a b =
    let up = times_up (pos (unsigned_abs v)) r f m n in
    omega (arith, ints, a.high, b.high)

pub mul-low : (v w k l u c h : ℤ) (paid : ℤ) → IsFloor (v *ℤ w) one u → IsFloor (k *ℤ l) one c
    → (paid +ℤ pos one) ≤ℤ (pos one *ℤ h)
    → (((l *ℤ (v -ℤ k)) +ℤ (v *ℤ (w -ℤ l))) +ℤ paid) ≤ℤ (pos one *ℤ ((u -ℤ c) +ℤ h))
mul-low v w k l u c h paid a b pays =
    omega (arith, ints, split v w k l, a.high, b.low)

pub mul-high : (v w k l u c h : ℤ) (paid : ℤ) → IsFloor (v *ℤ w) one u → IsFloor (k *ℤ l) one c
    → (paid +ℤ pos one) ≤ℤ (pos one *ℤ h)
    → (pos one *ℤ (u -ℤ c))
    ≤ℤ (((l *ℤ (v -ℤ k)) +ℤ (v *ℤ (w -ℤ l))) +ℤ ((pos one *ℤ h) -ℤ paid))
mul-high v w k l u c h paid a b pays =
    omega (arith, ints, split v w k l, a.low, b.high)

-- a product of two numbers of at least 0 is at least 0
pub natural-times : (a b : ℤ) → pos 0 ≤ℤ a → pos 0 ≤ℤ b → pos 0 ≤ℤ (a *ℤ b)
natural-times a b n m =
    let up = times_up (pos 0) a b n m in
    omega (arith, ints)

-- what is paid by at least 0 is not below 0
pub natural-error : (g paid : ℤ) → pos 0 ≤ℤ paid → (paid +ℤ pos one) ≤ℤ (pos one *ℤ g) → pos 0 ≤ℤ g
natural-error g paid n h = omega (arith, ints)

pub square-split : (v k : ℤ) → (v +ℤ k) *ℤ (v -ℤ k) ≡ (v *ℤ v) -ℤ (k *ℤ k)
square-split v k =
    omega (
      arith,
      ints,
      times_difference (v +ℤ k) v k,
      sum_times v k v,
      sum_times v k k,
      *ℤ_comm v k,
    )

pub error-sq : (a r p e : ℤ) → pos 0 ≤ℤ e → pos (unsigned_abs a) ≤ℤ r → IsFloor (r *ℤ e) one p
    → ((pos (unsigned_abs a) *ℤ e) +ℤ pos one) ≤ℤ (pos one *ℤ (p +ℤ pos 2))
error-sq a r p e n m h =
    let up = times_up (pos (unsigned_abs a)) r e m n in
    omega (arith, ints, h.high)

pub sq-low : (v k u c h e : ℤ) → IsFloor (v *ℤ v) one u → IsFloor (k *ℤ k) one c
    → ((pos (unsigned_abs (v +ℤ k)) *ℤ e) +ℤ pos one) ≤ℤ (pos one *ℤ h)
    → LowHolds (pos one) (v +ℤ k) (pos 0) (v -ℤ k) (v -ℤ k) e e (u -ℤ c) h
sq-low v k u c h e a b pays = omega (arith, ints, square-split v k, a.high, b.low)

pub sq-high : (v k u c h e : ℤ) → IsFloor (v *ℤ v) one u → IsFloor (k *ℤ k) one c
    → ((pos (unsigned_abs (v +ℤ k)) *ℤ e) +ℤ pos one) ≤ℤ (pos one *ℤ h)
    → HighHolds (pos one) (v +ℤ k) (pos 0) (v -ℤ k) (v -ℤ k) e e (u -ℤ c) h
sq-high v k u c h e a b pays = omega (arith, ints, square-split v k, a.low, b.high)
