-- An operation at a number of a range and one of two others: where the lesser and where the greater
-- of its results lies.
use Rattle.std.proofs.Common.{◌≡◌, zero, suc, ◌≤◌, Option, None, Some, ℤ, pos, negsuc, ◌≤ℤ◌, ◌<ℤ◌}
use Rattle.std.proofs.Common.{if◌then◌else◌, subst, sym, ◌∙◌, refl, arith}
use Rattle.std.specs.Prelude.{int_le}
use Rattle.std.specs.Int.{int_min, int_max}
use Rattle.std.specs.Int.Signed.{≤ℤ_refl}
use Rattle.std.proofs.Math.Nat.{zero-div}
use Rattle.std.proofs.Math.IntN.{*ℤ_comm, *ℤ-zero}
use Rattle.std.proofs.lemmas.Int.{ints, clamps, by_lt_z}
use Rattle.std.proofs.lemmas.Option.{same_Some}
use Rattle.ldp_num.specs.Plain.{plain_mul, plain_div}
use Rattle.ldp_num.specs.Twins.{lesser_of, greater_of, by_signs}
use Rattle.ldp_range.specs.Choice.{of_both}
use Rattle.ldp_range.specs.Range.{LiesIn}
use Rattle.ldp_range.specs.Related.{Reaches, FollowsTwo}
use Rattle.ldp_range.proofs.Orders.{product, product-right-up, product-right-down, quotient}
use Rattle.ldp_range.proofs.Orders.{quotient-down, quotient-rise}
use Rattle.ldp_range.proofs.Hulls.{number-ordered}
use Rattle.ldp_range.proofs.Corners.{choice, choice-first, choice-second}
use Rattle.ldp_range.proofs.Inclusion.{le-true, le-false}

-- what an order tested says
pub if-at-most : {A P : Type 0} (m n : ℤ) (x y z : A) → (if int_le m n then x else y) ≡ z
    → (m ≤ℤ n → x ≡ z → P) → (n <ℤ m → y ≡ z → P) → P
if-at-most m n x y z e left right =
    by_lt_z n m (λ k. right k (rw (le-false m n k) at e)) (λ k. left k (rw (le-true m n k) at e))

pub lesser-split : {P : Type 0} (x y : Option (ℤ × ℤ)) (t : ℤ × ℤ) → lesser_of x y ≡ Some t
    → ((p q : ℤ × ℤ) → x ≡ Some p → y ≡ Some q → (int_min p.0 q.0, int_min p.1 q.1) ≡ t → P) → P
lesser-split (Some p) (Some q) t e k =
    k p q refl refl (same_Some (int_min p.0 q.0, int_min p.1 q.1) t e)
lesser-split (Some p) None t e k = cc
lesser-split None y t e k = cc

pub greater-split : {P : Type 0} (x y : Option (ℤ × ℤ)) (t : ℤ × ℤ) → greater_of x y ≡ Some t
    → ((p q : ℤ × ℤ) → x ≡ Some p → y ≡ Some q → (int_max p.0 q.0, int_max p.1 q.1) ≡ t → P) → P
greater-split (Some p) (Some q) t e k =
    k p q refl refl (same_Some (int_max p.0 q.0, int_max p.1 q.1) t e)
greater-split (Some p) None t e k = cc
greater-split None y t e k = cc

pub lesser-in : (v w : ℤ) (p q t : ℤ × ℤ) → LiesIn v p → LiesIn w q
    → (int_min p.0 q.0, int_min p.1 q.1) ≡ t → LiesIn (int_min v w) t
lesser-in v w p q t a b e =
    subst (LiesIn (int_min v w)) e (record {
      low = omega (arith, ints, clamps, a.low, b.low);
      high = omega (arith, ints, clamps, a.high, b.high);
    })

pub greater-in : (v w : ℤ) (p q t : ℤ × ℤ) → LiesIn v p → LiesIn w q
    → (int_max p.0 q.0, int_max p.1 q.1) ≡ t → LiesIn (int_max v w) t
greater-in v w p q t a b e =
    subst (LiesIn (int_max v w)) e (record {
      low = omega (arith, ints, clamps, a.low, b.low);
      high = omega (arith, ints, clamps, a.high, b.high);
    })

-- the lesser and the greater of two results
pub lesser-reaches : (a b : Option ℤ) (x y : Option (ℤ × ℤ)) (t : ℤ × ℤ)
    → ((p : ℤ × ℤ) → x ≡ Some p → Reaches LiesIn a p)
    → ((q : ℤ × ℤ) → y ≡ Some q → Reaches LiesIn b q) → lesser_of x y ≡ Some t
    → Reaches LiesIn (of_both int_min a b) t
lesser-reaches a b x y t left right e =
    lesser-split x y t e (λ p q first second whole.
    let v = left p first in
    let w = right q second in
    record {
      value = int_min v.value w.value;
      is = rw (v.is, w.is) refl;
      related = lesser-in v.value w.value p q t v.related w.related whole;
    })

pub greater-reaches : (a b : Option ℤ) (x y : Option (ℤ × ℤ)) (t : ℤ × ℤ)
    → ((p : ℤ × ℤ) → x ≡ Some p → Reaches LiesIn a p)
    → ((q : ℤ × ℤ) → y ≡ Some q → Reaches LiesIn b q) → greater_of x y ≡ Some t
    → Reaches LiesIn (of_both int_max a b) t
greater-reaches a b x y t left right e =
    greater-split x y t e (λ p q first second whole.
    let v = left p first in
    let w = right q second in
    record {
      value = int_max v.value w.value;
      is = rw (v.is, w.is) refl;
      related = greater-in v.value w.value p q t v.related w.related whole;
    })

-- f rises from l to h at an x of at least 0, and falls at one of at most 0
pub record Turns (f : ℤ → ℤ → Option ℤ) (x l h : ℤ) : Type 0 where
  pub up : pos 0 ≤ℤ x → (v w : ℤ) → f x l ≡ Some v → f x h ≡ Some w → v ≤ℤ w
  pub down : x ≤ℤ pos 0 → (v w : ℤ) → f x l ≡ Some v → f x h ≡ Some w → w ≤ℤ v
  pub same : f (pos 0) l ≡ f (pos 0) h

-- at an x of at most 0 the second may be taken
second-is : (f : ℤ → ℤ → Option ℤ) (x l h : ℤ) → x ≤ℤ pos 0 → f (pos 0) l ≡ f (pos 0) h
    → f x (choice x l h) ≡ f x h
second-is f (negsuc n) l h k e = refl
second-is f (pos zero) l h k e = rw (choice-first (pos zero) l h (≤ℤ_refl (pos 0))) e
second-is f (pos (suc n)) l h k e = absurd (omega (arith, ints))

lesser-left : (v w : ℤ) → v ≤ℤ w → v ≡ int_min v w
lesser-left v w h = omega (arith, ints, clamps)

lesser-right : (v w : ℤ) → w ≤ℤ v → w ≡ int_min v w
lesser-right v w h = omega (arith, ints, clamps)

pub greater-left : (v w : ℤ) → w ≤ℤ v → v ≡ int_max v w
greater-left v w h = omega (arith, ints, clamps)

pub greater-right : (v w : ℤ) → v ≤ℤ w → w ≡ int_max v w
greater-right v w h = omega (arith, ints, clamps)

least-is : (f : ℤ → ℤ → Option ℤ) (x l h : ℤ) → Turns f x l h → (v w : ℤ) → f x l ≡ Some v
    → f x h ≡ Some w
    → f x (choice x l h) ≡ Some (int_min v w)
least-is f x l h turns v w a b =
    by_lt_z x (pos 0)
    (λ n. rw (choice-second x l h n, ← lesser-right v w (turns.down (omega (arith, ints)) v w a b))
    b)
    (λ n. rw (choice-first x l h n, ← lesser-left v w (turns.up n v w a b)) a)

greatest-is : (f : ℤ → ℤ → Option ℤ) (x l h : ℤ) → Turns f x l h → (v w : ℤ) → f x h ≡ Some v
    → f x l ≡ Some w
    → f x (choice x h l) ≡ Some (int_max v w)
greatest-is f x l h turns v w a b =
    by_lt_z x (pos 0)
    (λ n. rw (choice-second x h l n, ← greater-right v w (turns.down (omega (arith, ints)) w v b a))
    b)
    (λ n. rw (choice-first x h l n, ← greater-left v w (turns.up n w v b a)) a)

-- the least of what f takes at x, by the sign of x
pub least-holds : (f : ℤ → ℤ → Option ℤ) (g : ℤ × ℤ → ℤ × ℤ → Option (ℤ × ℤ))
    → FollowsTwo LiesIn f g
    → (x l h : ℤ) (b low high t : ℤ × ℤ) → Turns f x l h → LiesIn x b → LiesIn l low → LiesIn h high
    → by_signs lesser_of b (g b low) (g b high) ≡ Some t → Reaches LiesIn (f x (choice x l h)) t
least-holds f g holds x l h b low high t turns in_b in_low in_high e =
    if-at-most (pos 0) b.0 _ _ (Some t) e
    (λ n is. rw (choice-first x l h (omega (arith, ints, in_b.low)))
    (holds x l b low t in_b in_low is))
    (λ _ rest. if-at-most b.1 (pos 0) _ _ (Some t) rest
    (λ n is. rw (second-is f x l h (omega (arith, ints, in_b.high)) turns.same)
    (holds x h b high t in_b in_high is))
    (λ _ is. lesser-split (g b low) (g b high) t is (λ p q left right whole.
    let v = holds x l b low p in_b in_low left in
    let w = holds x h b high q in_b in_high right in
    record {
      value = int_min v.value w.value;
      is = least-is f x l h turns v.value w.value v.is w.is;
      related = lesser-in v.value w.value p q t v.related w.related whole;
    })))

-- and the greatest
pub greatest-holds : (f : ℤ → ℤ → Option ℤ) (g : ℤ × ℤ → ℤ × ℤ → Option (ℤ × ℤ))
    → FollowsTwo LiesIn f g
    → (x l h : ℤ) (b low high t : ℤ × ℤ) → Turns f x l h → LiesIn x b → LiesIn l low → LiesIn h high
    → by_signs greater_of b (g b high) (g b low) ≡ Some t → Reaches LiesIn (f x (choice x h l)) t
greatest-holds f g holds x l h b low high t turns in_b in_low in_high e =
    if-at-most (pos 0) b.0 _ _ (Some t) e
    (λ n is. rw (choice-first x h l (omega (arith, ints, in_b.low)))
    (holds x h b high t in_b in_high is))
    (λ _ rest. if-at-most b.1 (pos 0) _ _ (Some t) rest
    (λ n is. rw (second-is f x h l (omega (arith, ints, in_b.high)) (sym turns.same))
    (holds x l b low t in_b in_low is))
    (λ _ is. greater-split (g b high) (g b low) t is (λ p q left right whole.
    let v = holds x h b high p in_b in_high left in
    let w = holds x l b low q in_b in_low right in
    record {
      value = int_max v.value w.value;
      is = greatest-is f x l h turns v.value w.value v.is w.is;
      related = greater-in v.value w.value p q t v.related w.related whole;
    })))

-- products and quotients at x
nothing-times : (l : ℤ) → plain_mul (pos 0) l ≡ plain_mul (pos 0) (pos 0)
nothing-times l = rw (*ℤ_comm (pos 0) l, *ℤ-zero l) refl

pub mul-turns : (x l h : ℤ) → l ≤ℤ h → Turns plain_mul x l h
mul-turns x l h k = record {
  up = λ n v w a b. number-ordered (product x l) (product x h) (product-right-up x l h k n) v w a b;
  down = λ n v w a b. number-ordered (product x h) (product x l) (product-right-down x l h k n) w v
      b a;
  same = nothing-times l ∙ sym (nothing-times h);
}

pub div-turns : (x l h : ℤ) → h ≤ℤ l → pos 1 ≤ℤ h → Turns plain_div x l h
div-turns x (pos (suc d)) (pos (suc e)) k m =
    let less : suc e ≤ suc d = omega (arith, ints) in
    record {
      up = λ n v w a b. number-ordered (quotient x (suc d)) (quotient x (suc e))
          (quotient-down x (suc e) (suc d) (omega arith) less n) v w a b;
      down = λ n v w a b. number-ordered (quotient x (suc e)) (quotient x (suc d))
          (quotient-rise x (suc e) (suc d) (omega arith) less n) w v b a;
      same = rw (zero-div (suc d), zero-div (suc e)) refl;
    }
div-turns x (pos (suc d)) (pos zero) k m = absurd (omega (arith, ints))
div-turns x (pos (suc d)) (negsuc e) k m = absurd (omega (arith, ints))
div-turns x (pos zero) h k m = absurd (omega (arith, ints))
div-turns x (negsuc d) h k m = absurd (omega (arith, ints))
