-- What a product, a quotient and a root are that are rounded down, and the parts of what options
-- are made of.
use Rattle.std.proofs.Common.{◌≡◌, ℕ, zero, suc, ◌+◌, ◌*◌, ◌<◌, ◌≤◌, ℤ, pos, negsuc, ◌+ℤ◌, ◌*ℤ◌, ◌≤ℤ◌}
use Rattle.std.proofs.Common.{◌<ℤ◌, List, Option, None, Some, option_map, ap, sym, subst, ◌∙◌}
use Rattle.std.proofs.Common.{refl, arith}
use Rattle.std.proofs.Math.IntN.{*ℤ_comm}
use Rattle.std.proofs.lemmas.Int.{ints}
use Rattle.std.proofs.lemmas.Option.{same_Some}
use Rattle.ldp_num.specs.Number.{one}
use Rattle.ldp_num.specs.Root.{root}
use Rattle.ldp_num.specs.Ring.{IsFloor}
use Rattle.ldp_num.specs.Plain.{plain_add, plain_mul, plain_div, plain_sqrt, floor_div}
use Rattle.ldp_num.specs.Ranges.{ends}
use Rattle.ldp_num.specs.Slopes.{Known, made, out, of_pair}
use Rattle.ldp_num.proofs.Ring.{floor_is}
use Rattle.ldp_num.proofs.Roots.{is-root}
use Rattle.ldp_centred.proofs.Parts.{number-is}

pub map-some : {A B : Type 0} (f : A → B) (x : Option A) (m : B) → option_map f x ≡ Some m
    → (a : A) × ((x ≡ Some a) × (f a ≡ m))
map-some f None m e = cc
map-some f (Some a) m e = (a, (refl, same_Some (f a) m e))

-- both operands of a defined result
pub record Both {A B C : Type 0} (f : A → B → Option C) (x : Option A) (y : Option B) (m : C)
    : Type 0 where
  pub first : A
  pub second : B
  pub first_is : x ≡ Some first
  pub second_is : y ≡ Some second
  pub is : f first second ≡ Some m

pub both-some : {A B C : Type 0} (f : A → B → Option C) (x : Option A) (y : Option B) (m : C)
    → of_pair f x y ≡ Some m → Both f x y m
both-some f None y m e = cc
both-some f (Some a) None m e = cc
both-some f (Some a) (Some b) m e =
    record { first = a; second = b; first_is = refl; second_is = refl; is = e }

-- what is known is made of a centre, an error and slopes
pub record IsMade (c e : Option ℤ) (s : Option (List (ℤ × ℤ))) (m : Known) : Type 0 where
  pub centre : c ≡ Some m.centre
  pub error : e ≡ Some m.error
  pub slopes : s ≡ Some m.slopes

pub made-some : (c e : Option ℤ) (s : Option (List (ℤ × ℤ))) (m : Known) → made c e s ≡ Some m
    → IsMade c e s m
made-some None e s m h = cc
made-some (Some c) None s m h = cc
made-some (Some c) (Some e) None m h = cc
made-some (Some c) (Some e) (Some s) m h = record {
  centre = ap (option_map (λ k. k.centre)) h;
  error = ap (option_map (λ k. k.error)) h;
  slopes = ap (option_map (λ k. k.slopes)) h;
}

-- a pair of two ends
pub record AreEnds (l h : Option ℤ) (s : ℤ × ℤ) : Type 0 where
  pub low : l ≡ Some s.0
  pub high : h ≡ Some s.1

pub ends-some : (low high : Option ℤ) (s : ℤ × ℤ) → ends low high ≡ Some s → AreEnds low high s
ends-some None high s h = cc
ends-some (Some l) None s h = cc
ends-some (Some l) (Some k) s h = record {
  low = ap (option_map (λ p. p.0)) h;
  high = ap (option_map (λ p. p.1)) h;
}

-- one unit further at the high end
pub record IsOut (p s : ℤ × ℤ) : Type 0 where
  pub low : s.0 ≡ p.0
  pub high : s.1 ≡ p.1 +ℤ pos 1

pub out-some : (p s : ℤ × ℤ) → out p ≡ Some s → IsOut p s
out-some p s h =
    let ended : ℤ → ℤ × ℤ = λ n. (p.0, n) in
    let t = map-some ended (plain_add p.1 (pos 1)) s h in
    let n = number-is (p.1 +ℤ pos 1) t.0 t.1.0 in
    record {
      low = ap (λ (x : ℤ × ℤ). x.0) (sym t.1.1);
      high = ap (λ (x : ℤ × ℤ). x.1) (sym t.1.1) ∙ n;
    }

pub product-floor : (a b c : ℤ) → plain_mul a b ≡ Some c → IsFloor (a *ℤ b) one c
product-floor a b c e =
    subst (IsFloor (a *ℤ b) one) (sym (number-is (floor_div (a *ℤ b) one) c e))
    (floor_is (a *ℤ b) one (omega arith))

-- c is the quotient of a and b, rounded down
pub record IsQuotient (a b c : ℤ) : Type 0 where
  pub above : pos 1 ≤ℤ b
  pub low : (b *ℤ c) ≤ℤ (pos one *ℤ a)
  pub high : (pos one *ℤ a) <ℤ ((b *ℤ c) +ℤ b)

quotient-floor : (a c : ℤ) (d : ℕ) → IsFloor (a *ℤ pos one) (suc d) c → IsQuotient a (pos (suc d)) c
quotient-floor a c d f = record {
  above = omega (arith, ints);
  low = omega (arith, ints, f.low, *ℤ_comm c (pos (suc d)));
  high = omega (arith, ints, f.high, *ℤ_comm c (pos (suc d)));
}

pub quotient-is : (a b c : ℤ) → plain_div a b ≡ Some c → IsQuotient a b c
quotient-is a (pos zero) c e = cc
quotient-is a (negsuc d) c e = cc
quotient-is a (pos (suc d)) c e =
    quotient-floor a c d
    (subst (IsFloor (a *ℤ pos one) (suc d))
    (sym (number-is (floor_div (a *ℤ pos one) (suc d)) c e))
    (floor_is (a *ℤ pos one) (suc d) (omega arith)))

-- c is the root of a, rounded down
pub record IsRounded (a c : ℤ) : Type 0 where
  pub natural : pos 0 ≤ℤ c
  pub low : (c *ℤ c) ≤ℤ (pos one *ℤ a)
  pub high : (pos one *ℤ a) <ℤ ((c *ℤ c) +ℤ (pos 2 *ℤ c) +ℤ pos 1)

root-rounded : (a r : ℕ) → r * r ≤ a * one → a * one < (r + 1) * (r + 1) → IsRounded (pos a) (pos r)
root-rounded a r h l =
    let square : (r + 1) * (r + 1) ≡ r * r + 2 * r + 1 = omega arith in
    record {
      natural = omega (arith, ints);
      low = omega (arith, ints);
      high = omega (arith, ints);
    }

pub root-is-rounded : (a c : ℤ) → plain_sqrt a ≡ Some c → IsRounded a c
root-is-rounded (negsuc a) c e = cc
root-is-rounded (pos a) c e =
    let is = is-root (a * one) in
    subst (IsRounded (pos a)) (sym (number-is (pos (root (a * one))) c e))
    (root-rounded a (root (a * one)) is.square (is.above (root (a * one) + 1) (omega arith)))
