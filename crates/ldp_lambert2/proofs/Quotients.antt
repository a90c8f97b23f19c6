-- Operations of which an operand settles the result.
use Rattle.std.proofs.Common.{◌≡◌, zero, suc, Bool, true, false, ℤ, pos, negsuc, ◌+ℤ◌, ◌-ℤ◌, ◌*ℤ◌}
use Rattle.std.proofs.Common.{sym, ap, ◌∙◌, arith}
use Rattle.std.proofs.Math.IntN.{*ℤ-zero, pos-*ℤ-pos}
use Rattle.std.proofs.Math.Nat.{mul-div_cancel_left}
use Rattle.std.proofs.lemmas.Int.{ints}
use Rattle.std.proofs.lemmas.Option.{same_Some}
use Rattle.std.specs.Prelude.{Some, None, if◌then◌else◌}
use Rattle.ldp_num.specs.Number.{one, number, is_number}
use Rattle.ldp_num.specs.Plain.{floor_div, plain_add, plain_sub, plain_mul, plain_div}

pub minus-itself : (q : ℤ) → plain_sub q q ≡ Some (pos 0)
minus-itself q = let e : q -ℤ q ≡ pos 0 = omega (arith, ints) in ap number e

pub times-zero : (n : ℤ) → plain_mul n (pos 0) ≡ Some (pos 0)
times-zero n = ap (λ z. number (floor_div z one)) (*ℤ-zero n)

-- what is a number is itself
number-is : (z v : ℤ) → number z ≡ Some v → v ≡ z
number-is z v h = by_test (is_number z) h where
  by_test : (b : Bool) → (if b then Some z else None) ≡ Some v → v ≡ z
  by_test true k = sym (same_Some _ _ k)
  by_test false k = cc

pub plus-zero : (z v : ℤ) → plain_add z (pos 0) ≡ Some v → v ≡ z
plus-zero z v h = let e : z +ℤ pos 0 ≡ z = omega (arith, ints) in number-is (z +ℤ pos 0) v h ∙ e

pub over-itself : (z v : ℤ) → plain_div z z ≡ Some v → v ≡ pos one
over-itself (pos zero) v h = cc
over-itself (pos (suc d)) v h =
    let e : floor_div (pos (suc d) *ℤ pos one) (suc d) ≡ pos one =
    ap (λ z. floor_div z (suc d)) (pos-*ℤ-pos (suc d) one)
    ∙ ap pos (mul-div_cancel_left one {n = suc d} (omega arith)) in
    number-is _ v h ∙ e
over-itself (negsuc d) v h = cc
