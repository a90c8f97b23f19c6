-- The laws of sums and products of whole numbers. An integer z is read as `up z - down z`.
use Rattle.std.proofs.Common.{◌≡◌, ℕ, zero, suc, ◌*◌, pos, negsuc, neg_ℤ, ◌+ℤ◌}
use Rattle.std.proofs.Common.{◌*ℤ◌, ap, sym, ◌∙◌, arith}
use Rattle.std.specs.Int.Signed.{≤ℤ_refl}
use Rattle.std.proofs.Math.Nat.{mul-le-mul_right, div-mul-le_self}
use Rattle.std.proofs.Math.IntN.{*ℤ_comm, *ℤ-zero}
use Rattle.std.proofs.lemmas.Int.{ints, by_lt_z}
use borrow.Author.Differences.{up, down, product_is, sum_is_lem, neg_is}
use Rattle.ldp_num.specs.Ring.{TimesAssociate, TimesSwap, TimesSum, SumTimes, TimesDifference}
use Rattle.ldp_num.specs.Ring.{TimesNegated, TimesUp, TimesDown, TimesCancel, FloorIs}

pub times_sum : TimesSum
times_sum a b c =
    let s = sum_is_lem b c in
    let by = λ (k m n : ℕ) (e : m ≡ n). ap (λ x. x * k) e in
    omega (arith, ints, by (up a) _ _ s, by (down a) _ _ s)

pub times_associate : TimesAssociate
times_associate a b c =
    let p = product_is a b in
    let q = product_is b c in
    let by = λ (k m n : ℕ) (e : m ≡ n). ap (λ x. x * k) e in
    omega (
      arith,
      ints,
      by (up c) _ _ p.0,
      by (down c) _ _ p.0,
      by (up c) _ _ p.1,
      by (down c) _ _ p.1,
      by (up a) _ _ q.0,
      by (down a) _ _ q.0,
      by (up a) _ _ q.1,
      by (down a) _ _ q.1,
    )

pub times_swap : TimesSwap
times_swap a b c =
    sym (times_associate a b c) ∙ ap (λ x. x *ℤ c) (*ℤ_comm a b) ∙ times_associate b a c

pub sum_times : SumTimes
sum_times a b c =
    *ℤ_comm (a +ℤ b) c ∙ times_sum c a b ∙ ap (λ x. x +ℤ (c *ℤ b)) (*ℤ_comm c a)
    ∙ ap (λ x. (a *ℤ c) +ℤ x) (*ℤ_comm c b)

pub times_negated : TimesNegated
times_negated a b =
    let n = neg_is b in
    let by = λ (k m n : ℕ) (e : m ≡ n). ap (λ x. x * k) e in
    omega (
      arith,
      ints,
      by (up a) _ _ n.0,
      by (down a) _ _ n.0,
      by (up a) _ _ n.1,
      by (down a) _ _ n.1,
    )

pub times_difference : TimesDifference
times_difference a b c =
    times_sum a b (neg_ℤ c) ∙ ap (λ x. (a *ℤ b) +ℤ x) (times_negated a c)

-- a greater number, times one that is not below 0
pub times_up : TimesUp
times_up (pos a) (pos b) (pos c) h l =
    omega (arith, ints, mul-le-mul_right {m = a} {n = b} c (omega (arith, ints)))
times_up (pos a) (negsuc b) (pos c) h l = absurd (omega (arith, ints))
times_up (negsuc a) (pos b) (pos c) h l = omega (arith, ints)
times_up (negsuc a) (negsuc b) (pos c) h l =
    omega (arith, ints, mul-le-mul_right {m = suc b} {n = suc a} c (omega (arith, ints)))
times_up x y (negsuc c) h l = absurd (omega (arith, ints))

-- a greater number, times one that is not above 0
pub times_down : TimesDown
times_down x y (pos zero) h l = rw (*ℤ-zero x, *ℤ-zero y) (≤ℤ_refl (pos 0))
times_down x y (pos (suc c)) h l = absurd (omega (arith, ints))
times_down (pos a) (pos b) (negsuc c) h l =
    omega (arith, ints, mul-le-mul_right {m = a} {n = b} (suc c) (omega (arith, ints)))
times_down (pos a) (negsuc b) (negsuc c) h l = absurd (omega (arith, ints))
times_down (negsuc a) (pos b) (negsuc c) h l = omega (arith, ints)
times_down (negsuc a) (negsuc b) (negsuc c) h l =
    omega (arith, ints, mul-le-mul_right {m = suc b} {n = suc a} (suc c) (omega (arith, ints)))

pub times_cancel : TimesCancel
times_cancel x y k h l =
    by_lt_z y x
    (λ less. let grown = times_up (y +ℤ pos 1) x k (omega (arith, ints)) (omega (arith, ints)) in
    let apart = sum_times y (pos 1) k in
    absurd (omega (arith, ints)))
    (λ most. most)

pub floor_is : FloorIs
floor_is (pos a) d h = record {
  low = omega (arith, ints, div-mul-le_self a d);
  high = omega (arith, ints);
}
floor_is (negsuc a) d h = record {
  low = omega (arith, ints);
  high = omega (arith, ints, div-mul-le_self a d);
}
