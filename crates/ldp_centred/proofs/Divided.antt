-- The arithmetic of the quotient and of the root, and that both keep what items say.
use Rattle.std.proofs.Common.{◌≡◌, zero, suc, ℤ, pos, negsuc, neg_ℤ, ◌+ℤ◌, ◌-ℤ◌, ◌*ℤ◌, ◌≤ℤ◌, List, Some}
use Rattle.std.proofs.Common.{arith, sym, subst, ◌∙◌}
use Rattle.std.specs.Prelude.{option_and_then, unsigned_abs}
use Rattle.std.specs.Int.Signed.{≤ℤ_refl}
use Rattle.std.proofs.Math.IntN.{*ℤ_comm}
use Rattle.std.proofs.lemmas.Int.{ints}
use Rattle.std.proofs.lemmas.Option.{same_Some}
use Rattle.ldp_num.specs.Number.{one}
use Rattle.ldp_num.specs.Plain.{plain_add, plain_mul, plain_div, plain_sqrt}
use Rattle.ldp_num.specs.Ranges.{pair_high_abs, pair_div, pair_sqrt}
use Rattle.ldp_num.specs.Ring.{IsFloor}
use Rattle.ldp_num.specs.Slopes.{Known, out, outward, plus, divisor, slope_div, error_div, of_each}
use Rattle.ldp_num.specs.Slopes.{of_places}
use Rattle.ldp_num.specs.Slopes.{known_divided, known_div, known_root, known_sqrt, slope_over, slope_sqrt}
use Rattle.ldp_num.proofs.Ring.{times_sum, sum_times, times_negated, times_up, times_cancel}
use Rattle.ldp_num.proofs.Ring.{times_difference}
use Rattle.ldp_range.specs.Range.{LiesIn}
use Rattle.ldp_range.specs.Related.{FollowsOne, FollowsTwo}
use Rattle.ldp_range.proofs.Inclusion.{numbers-lie-in}
use Rattle.ldp_range.proofs.Ends.{absolute-bounds}
use Rattle.ldp_centred.specs.Soundness.{Describes, Meets}
use Rattle.ldp_centred.proofs.Parts.{number-is}
use Rattle.ldp_centred.proofs.Centring.{then-some, div-centred, sqrt-centred}
use Rattle.ldp_centred.proofs.Rounded.{made-some, ends-some, out-some, product-floor, IsQuotient}
use Rattle.ldp_centred.proofs.Rounded.{quotient-is, IsRounded, root-is-rounded}
use Rattle.ldp_centred.proofs.Corners.{cornered-two, cornered-one, div-corner, sqrt-corner}
use Rattle.ldp_centred.proofs.Meeting.{Answered, LowHolds, HighHolds, tells-of, answered, two-met, one-met}
use Rattle.ldp_centred.proofs.Arithmetic.{natural-times, square-split}

-- an error of at least 0 that pays this much and the rounding
record Pays (n paid g : ℤ) : Type 0 where
  natural : pos 0 ≤ℤ g
  enough : (paid +ℤ n) ≤ℤ (n *ℤ g)

-- a quotient of a cost by the least divisor, two units more, pays it times each divisor
pays-by : (n low cost quotient paid : ℤ) → pos 0 ≤ℤ paid → paid ≤ℤ (pos one *ℤ cost)
    → IsQuotient cost low quotient → low ≤ℤ n → Pays n paid (quotient +ℤ pos 2)
pays-by n low cost quotient paid natural most is less =
    let above = is.above in
    let high = is.high in
    let spread = sum_times quotient (pos 1) low in
    let turned = *ℤ_comm low quotient in
    let up : pos 0 ≤ℤ (quotient +ℤ pos 1) =
    times_cancel (pos 0) (quotient +ℤ pos 1) low above (omega (arith, ints)) in
    let grown = times_up low n (quotient +ℤ pos 1) less up in
    record {
      natural = omega (arith, ints, up);
      enough = omega (
        arith,
        ints,
        grown,
        times_sum low quotient (pos 1),
        times_sum n quotient (pos 1),
        times_sum n quotient (pos 2),
      );
    }

-- what a number times the divisor's error costs
cost-of : (a r e f p cost : ℤ) → pos 0 ≤ℤ f → a ≤ℤ r → IsFloor (r *ℤ f) one p
    → cost ≡ (e +ℤ p) +ℤ pos 1
    → ((pos one *ℤ e) +ℤ (a *ℤ f)) ≤ℤ (pos one *ℤ cost)
cost-of a r e f p cost natural less floor is =
    let up = times_up a r f less natural in
    omega (arith, ints, floor.high, is)

magnitude-negated : (k r : ℤ) → pos (unsigned_abs k) ≤ℤ r → pos (unsigned_abs (neg_ℤ k)) ≤ℤ r
magnitude-negated (pos zero) r h = h
magnitude-negated (pos (suc n)) r h = h
magnitude-negated (negsuc n) r h = h

natural-magnitude : (v : ℤ) → pos 0 ≤ℤ pos (unsigned_abs v)
natural-magnitude v = omega (arith, ints)

natural-paid : (x y : ℤ) → pos 0 ≤ℤ x → pos 0 ≤ℤ y → pos 0 ≤ℤ ((pos one *ℤ x) +ℤ y)
natural-paid x y n m = omega (arith, ints)

-- what the error of a quotient pays
div-pays : (range near : ℤ × ℤ) (w k e f g : ℤ) → LiesIn w range → LiesIn k near → pos 0 ≤ℤ e
    → pos 0 ≤ℤ f
    → error_div range near e f ≡ Some g
    → Pays w ((pos one *ℤ e) +ℤ (pos (unsigned_abs (neg_ℤ k)) *ℤ f)) g
div-pays range near w k e f g within held first second is =
    let t = then-some (λ n. plain_add n (pos 2)) _ g is in
    let s = then-some (λ n. plain_div n range.0) _ t.0 t.1.0 in
    let r = then-some (λ n. plain_add n (pos 1)) _ s.0 s.1.0 in
    let q = then-some (plain_add e) (plain_mul (pair_high_abs near) f) r.0 r.1.0 in
    let whole = number-is (t.0 +ℤ pos 2) g t.1.1 in
    let more = number-is (r.0 +ℤ pos 1) s.0 r.1.1 in
    let sum = number-is (e +ℤ q.0) r.0 q.1.1 in
    let a : ℤ = pos (unsigned_abs (neg_ℤ k)) in
    let less = magnitude-negated k (pair_high_abs near) (absolute-bounds k near held).greatest in
    let most = cost-of a (pair_high_abs near) e f q.0 s.0 second less
    (product-floor (pair_high_abs near) f q.0 q.1.0) (omega (arith, ints, more, sum)) in
    let least = natural-paid e (a *ℤ f) first
    (natural-times a f (natural-magnitude (neg_ℤ k)) second) in
    subst (Pays w ((pos one *ℤ e) +ℤ (a *ℤ f))) (sym whole)
    (pays-by w range.0 s.0 t.0 ((pos one *ℤ e) +ℤ (a *ℤ f)) least most
    (quotient-is s.0 range.0 t.0 s.1.1) within.low)

-- minus k times a difference
turned : (k w l : ℤ) → neg_ℤ k *ℤ (w -ℤ l) ≡ (l *ℤ k) -ℤ (w *ℤ k)
turned k w l =
    omega (
      arith,
      ints,
      *ℤ_comm (neg_ℤ k) (w -ℤ l),
      times_negated (w -ℤ l) k,
      *ℤ_comm (w -ℤ l) k,
      times_difference k w l,
      *ℤ_comm k w,
      *ℤ_comm k l,
    )

div-low : (v w k l u c e f g : ℤ) → IsQuotient v w u → IsQuotient k l c
    → Pays w ((pos one *ℤ e) +ℤ (pos (unsigned_abs (neg_ℤ c)) *ℤ f)) g
    → LowHolds w (pos one) (neg_ℤ c) (v -ℤ k) (w -ℤ l) e f (u -ℤ c) g
div-low v w k l u c e f g value centre pays =
    omega (
      arith,
      ints,
      turned c w l,
      times_sum w (u -ℤ c) g,
      times_difference w u c,
      value.high,
      centre.low,
      pays.enough,
    )

div-high : (v w k l u c e f g : ℤ) → IsQuotient v w u → IsQuotient k l c
    → Pays w ((pos one *ℤ e) +ℤ (pos (unsigned_abs (neg_ℤ (c +ℤ pos 1))) *ℤ f)) g
    → HighHolds w (pos one) (neg_ℤ (c +ℤ pos 1)) (v -ℤ k) (w -ℤ l) e f (u -ℤ c) g
div-high v w k l u c e f g value centre pays =
    omega (
      arith,
      ints,
      turned (c +ℤ pos 1) w l,
      times_sum w c (pos 1),
      times_sum l c (pos 1),
      times_difference w u c,
      value.low,
      centre.high,
      pays.enough,
    )

div-kept : (ts : List ℤ) (v w u : ℤ) (a b : ℤ × ℤ) (k l m : Known) → LiesIn w b
    → Describes ts v a k
    → Describes ts w b l → plain_div v w ≡ Some u → known_div b k l ≡ Some m → Answered ts u m
div-kept ts v w u a b k l m within left right value made =
    let t = then-some (λ c. option_and_then (known_divided b k l c) (out (c, c)))
    (plain_div k.centre l.centre) m made in
    let q = then-some (known_divided b k l t.0) (out (t.0, t.0)) m t.1.1 in
    let p = made-some (Some t.0) (error_div b q.0 k.error l.error)
    (of_places (slope_div b q.0) k.slopes l.slopes) m q.1.1 in
    let same = same_Some t.0 m.centre p.centre in
    let near = out-some (t.0, t.0) q.0 q.1.0 in
    let floor : LiesIn m.centre q.0 = record {
      low = omega (arith, ints, same, near.low);
      high = omega (arith, ints, same, near.high);
    } in
    let next : LiesIn (m.centre +ℤ pos 1) q.0 = record {
      low = omega (arith, ints, same, near.low);
      high = omega (arith, ints, same, near.high);
    } in
    let whole = quotient-is v w u value in
    let centre = quotient-is k.centre l.centre m.centre (t.1.0 ∙ p.centre) in
    let low-pays = div-pays b q.0 w m.centre k.error l.error m.error within floor left.error
    right.error p.error in
    let high-pays = div-pays b q.0 w (m.centre +ℤ pos 1) k.error l.error m.error within next
    left.error right.error p.error in
    let low = cornered-two w (pos one) (neg_ℤ m.centre) (slope_div b q.0)
    (div-corner b q.0 w m.centre within floor) k.slopes l.slopes m.slopes p.slopes in
    let high = cornered-two w (pos one) (neg_ℤ (m.centre +ℤ pos 1)) (slope_div b q.0)
    (div-corner b q.0 w (m.centre +ℤ pos 1) within next) k.slopes l.slopes m.slopes p.slopes in
    answered ts u m w (pos one) (neg_ℤ m.centre) (pos one) (neg_ℤ (m.centre +ℤ pos 1))
    (v -ℤ k.centre) (w -ℤ l.centre) k.error l.error k.slopes l.slopes whole.above low-pays.natural
    low high (tells-of ts v a k left) (tells-of ts w b l right)
    (div-low v w k.centre l.centre u m.centre k.error l.error m.error whole centre low-pays)
    (div-high v w k.centre l.centre u m.centre k.error l.error m.error whole centre high-pays)

pub div-meets : (ts : List ℤ) → FollowsTwo (Meets ts) plain_div slope_over
div-meets ts v w a b t left right e =
    two-met ts plain_div pair_div (known_div b.range) v w a b t numbers-lie-in.div left right
    (λ r p q i. div-centred a.range b.range r a.known b.known p q i)
    (λ k l m u x y value made. div-kept ts v w u a.range b.range k l m right.range x y value made) e

root-split : (u c : ℤ)
    → ((u +ℤ c) +ℤ pos 1) *ℤ (u -ℤ c) ≡ ((u *ℤ u) -ℤ (c *ℤ c)) +ℤ (u -ℤ c)
root-split u c = omega (arith, ints, sum_times (u +ℤ c) (pos 1) (u -ℤ c), square-split u c)

sqrt-low : (v k u c e g : ℤ) → IsRounded v u → IsRounded k c
    → Pays ((u +ℤ c) +ℤ pos 1) (pos one *ℤ e) g
    → LowHolds ((u +ℤ c) +ℤ pos 1) (pos one) (pos 0) (v -ℤ k) (v -ℤ k) e e (u -ℤ c) g
sqrt-low v k u c e g value centre pays =
    omega (
      arith,
      ints,
      root-split u c,
      times_sum ((u +ℤ c) +ℤ pos 1) (u -ℤ c) g,
      value.high,
      centre.low,
      pays.enough,
    )

sqrt-high : (v k u c e g : ℤ) → IsRounded v u → IsRounded k c
    → Pays ((u +ℤ c) +ℤ pos 1) (pos one *ℤ e) g
    → HighHolds ((u +ℤ c) +ℤ pos 1) (pos one) (pos 0) (v -ℤ k) (v -ℤ k) e e (u -ℤ c) g
sqrt-high v k u c e g value centre pays =
    omega (arith, ints, root-split u c, value.low, centre.high, pays.enough)

natural-cost : (e : ℤ) → pos 0 ≤ℤ e → pos 0 ≤ℤ (pos one *ℤ e)
natural-cost e n = omega (arith, ints)

-- the sum of both unrounded roots lies in the divisor
root-sum-within : (r sum : ℤ × ℤ) (u c : ℤ) → LiesIn u r → divisor r c ≡ Some sum
    → LiesIn ((u +ℤ c) +ℤ pos 1) sum
root-sum-within r sum u c within e =
    let h = ends-some (plain_add r.0 c) (plus (plain_add r.1 c) (pos 2)) sum e in
    let t = then-some (λ n. plain_add n (pos 2)) (plain_add r.1 c) sum.1 h.high in
    let low = number-is (r.0 +ℤ c) sum.0 h.low in
    let middle = number-is (r.1 +ℤ c) t.0 t.1.0 in
    let high = number-is (t.0 +ℤ pos 2) sum.1 t.1.1 in
    record {
      low = omega (arith, ints, low, within.low);
      high = omega (arith, ints, middle, high, within.high);
    }

sqrt-kept : (ts : List ℤ) (v u : ℤ) (a r : ℤ × ℤ) (k m : Known) → LiesIn u r → Describes ts v a k
    → plain_sqrt v ≡ Some u → known_sqrt r k ≡ Some m → Answered ts u m
sqrt-kept ts v u a r k m within left value made =
    let t = then-some (λ c. option_and_then (known_root k c) (divisor r c)) (plain_sqrt k.centre) m
    made in
    let q = then-some (known_root k t.0) (divisor r t.0) m t.1.1 in
    let p = made-some (Some t.0) (plus (plain_div k.error q.0.0) (pos 2))
    (of_each (λ x. outward (pair_div x q.0)) k.slopes) m q.1.1 in
    let same = same_Some t.0 m.centre p.centre in
    let inside : LiesIn ((u +ℤ m.centre) +ℤ pos 1) q.0 =
    subst (λ (c : ℤ). LiesIn ((u +ℤ c) +ℤ pos 1) q.0) same
    (root-sum-within r q.0 u t.0 within q.1.0) in
    let whole = root-is-rounded v u value in
    let centre = root-is-rounded k.centre m.centre (t.1.0 ∙ p.centre) in
    let s = then-some (λ n. plain_add n (pos 2)) (plain_div k.error q.0.0) m.error p.error in
    let more = number-is (s.0 +ℤ pos 2) m.error s.1.1 in
    let pays : Pays ((u +ℤ m.centre) +ℤ pos 1) (pos one *ℤ k.error) m.error =
    subst (Pays ((u +ℤ m.centre) +ℤ pos 1) (pos one *ℤ k.error)) (sym more)
    (pays-by ((u +ℤ m.centre) +ℤ pos 1) q.0.0 k.error s.0 (pos one *ℤ k.error)
    (natural-cost k.error left.error) (≤ℤ_refl (pos one *ℤ k.error))
    (quotient-is k.error q.0.0 s.0 s.1.0) inside.low) in
    let corners = cornered-one ((u +ℤ m.centre) +ℤ pos 1) (pos one)
    (λ x. outward (pair_div x q.0))
    (sqrt-corner q.0 ((u +ℤ m.centre) +ℤ pos 1) inside) k.slopes m.slopes p.slopes in
    answered ts u m ((u +ℤ m.centre) +ℤ pos 1) (pos one) (pos 0) (pos one) (pos 0) (v -ℤ k.centre)
    (v -ℤ k.centre) k.error k.error k.slopes k.slopes
    (omega (arith, ints, whole.natural, centre.natural)) pays.natural corners corners
    (tells-of ts v a k left) (tells-of ts v a k left)
    (sqrt-low v k.centre u m.centre k.error m.error whole centre pays)
    (sqrt-high v k.centre u m.centre k.error m.error whole centre pays)

pub sqrt-meets : (ts : List ℤ) → FollowsOne (Meets ts) plain_sqrt slope_sqrt
sqrt-meets ts v a t left e =
    one-met ts plain_sqrt pair_sqrt known_sqrt v a t numbers-lie-in.sqrt left
    (λ r p i. sqrt-centred a.range r a.known p i)
    (λ k m r u x within value made. sqrt-kept ts v u a.range r k m within x value made) e
