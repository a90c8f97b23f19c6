-- The least absolute value of an item over a box, and the item of an input.
use Rattle.std.proofs.Common.{◌≡◌, ℕ, zero, suc, ◌<◌, ℤ, pos, negsuc, neg_ℤ, ◌+ℤ◌, ◌-ℤ◌, ◌*ℤ◌, ◌≤ℤ◌}
use Rattle.std.proofs.Common.{List, [], ◌∷◌, Option, None, Some, refl, arith, sym, ap, subst, ◌∙◌}
use Rattle.std.specs.Prelude.{option_and_then, set, slice_get}
use Rattle.std.specs.Int.Signed.{≤ℤ_refl}
use Rattle.std.proofs.lemmas.Int.{ints, clamps}
use Rattle.std.proofs.lemmas.Option.{same_Some}
use Rattle.ldp_num.specs.Number.{one}
use Rattle.ldp_num.specs.Plain.{plain_add}
use Rattle.ldp_num.specs.Ranges.{pair_add}
use Rattle.ldp_num.specs.Slopes.{Known, of_pair, flat}
use Rattle.ldp_num.proofs.Ring.{floor_is}
use Rattle.ldp_range.specs.Range.{LiesIn, magnitude, pair_low_abs}
use Rattle.ldp_range.specs.Related.{Pairwise}
use Rattle.ldp_range.proofs.Ends.{absolute-of_one}
use Rattle.ldp_centred.specs.Lowest.{middle, offset, offsets, offset_range, lean}
use Rattle.ldp_centred.specs.Lowest.{form_from, form, common, least_abs, lowest}
use Rattle.ldp_centred.specs.Soundness.{least_sum, greatest_sum, AreBounds, InOrder, Describes}
use Rattle.ldp_centred.specs.Laws.{LowestIsBelow, LowestIsSharper, LowestIsExact, LowestIsNatural}
use Rattle.ldp_centred.specs.Laws.{InputMeets}
use Rattle.ldp_centred.proofs.Parts.{number-is}
use Rattle.ldp_centred.proofs.Centring.{then-some}
use Rattle.ldp_centred.proofs.Rounded.{both-some, ends-some}
use Rattle.ldp_centred.proofs.Corners.{product-held}
use Rattle.ldp_centred.proofs.Sound.{zeros, least-zeros, greatest-zeros}

pub lowest-natural : LowestIsNatural
lowest-natural inputs a = omega (arith, ints, clamps)

-- a sum of a list that begins with an undefined pair is undefined
form-begins : (start : Option (ℤ × ℤ)) (slopes inputs : List (ℤ × ℤ)) (f : ℤ × ℤ)
    → form_from start slopes inputs ≡ Some f → (s : ℤ × ℤ) × (start ≡ Some s)
form-begins None [] inputs f e = cc
form-begins None (s ∷ slopes) [] f e = cc
form-begins None (s ∷ slopes) (b ∷ inputs) f e =
    let rest = form-begins None slopes inputs f e in cc
form-begins (Some s) slopes inputs f e = (s, refl)

-- a pair with each slope's way added holds it at each point, in units of units
record Formed (from to : ℤ × ℤ) (slopes : List (ℤ × ℤ)) (ts : List ℤ) : Type 0 where
  low : (pos one *ℤ to.0) ≤ℤ ((pos one *ℤ from.0) +ℤ least_sum slopes ts)
  high : ((pos one *ℤ from.1) +ℤ greatest_sum slopes ts) ≤ℤ (pos one *ℤ to.1)

unmoved : (from to : ℤ × ℤ) → Some from ≡ Some to → (from.0 ≡ to.0) × (from.1 ≡ to.1)
unmoved from to e =
    let same = same_Some from to e in (ap (λ (p : ℤ × ℤ). p.0) same, ap (λ (p : ℤ × ℤ). p.1) same)

offset-within : (x : ℤ) (b : ℤ × ℤ) → LiesIn x b → LiesIn (offset x b) (offset_range b)
offset-within x b h = record {
  low = omega (arith, ints, h.low);
  high = omega (arith, ints, h.high);
}

formed : (from : ℤ × ℤ) (slopes inputs : List (ℤ × ℤ)) (point : List ℤ) (to : ℤ × ℤ)
    → InOrder slopes → Pairwise LiesIn point inputs
    → form_from (Some from) slopes inputs ≡ Some to
    → Formed from to slopes (offsets point inputs)
formed from [] inputs point to order within e =
    let same = unmoved from to e in
    record { low = omega (arith, ints, same.0); high = omega (arith, ints, same.1) }
formed from (s ∷ slopes) [] [] to order within e =
    let same = unmoved from to e in
    record { low = omega (arith, ints, same.0); high = omega (arith, ints, same.1) }
formed from (s ∷ slopes) [] (x ∷ point) to order within e = absurd within
formed from (s ∷ slopes) (b ∷ inputs) [] to order within e = absurd within
formed from (s ∷ slopes) (b ∷ inputs) (x ∷ point) to order within e =
    let begin = form-begins (of_pair pair_add (Some from) (lean s b)) slopes inputs to e in
    let sum = both-some pair_add (Some from) (lean s b) begin.0 begin.1 in
    let same = unmoved from sum.first sum.first_is in
    let parts = ends-some (plain_add sum.first.0 sum.second.0)
    (plain_add sum.first.1 sum.second.1) begin.0 sum.is in
    let low = number-is (sum.first.0 +ℤ sum.second.0) begin.0.0 parts.low in
    let high = number-is (sum.first.1 +ℤ sum.second.1) begin.0.1 parts.high in
    let near = offset-within x b within.0 in
    let first : LiesIn s.0 s = record { low = ≤ℤ_refl s.0; high = order.0 } in
    let last : LiesIn s.1 s = record { low = order.0; high = ≤ℤ_refl s.1 } in
    let left = product-held s (offset_range b) sum.second s.0 (offset x b) first near
    sum.second_is in
    let right = product-held s (offset_range b) sum.second s.1 (offset x b) last near
    sum.second_is in
    let rest = formed begin.0 slopes inputs point to order.1 within.1
    (subst (λ (o : Option (ℤ × ℤ)). form_from o slopes inputs ≡ Some to) begin.1 e) in
    record {
      low = omega (arith, ints, clamps, rest.low, left.low, right.low, low, same.0);
      high = omega (arith, ints, clamps, rest.high, left.high, right.high, high, same.1);
    }

form-low : (v c e l f : ℤ) (least : ℤ) → (pos one *ℤ f) ≤ℤ ((pos one *ℤ c) +ℤ least)
    → least ≤ℤ ((pos one *ℤ (v -ℤ c)) +ℤ (pos one *ℤ e)) → l ≡ f +ℤ neg_ℤ e → l ≤ℤ v
form-low v c e l f least h k same = omega (arith, ints)

form-high : (v c e l f : ℤ) (greatest : ℤ) → ((pos one *ℤ c) +ℤ greatest) ≤ℤ (pos one *ℤ f)
    → (pos one *ℤ (v -ℤ c)) ≤ℤ (greatest +ℤ (pos one *ℤ e)) → l ≡ f +ℤ e → v ≤ℤ l
form-high v c e l f greatest h k same = omega (arith, ints)

-- the centred form holds the value at each point of the box
form-holds : (point : List ℤ) (inputs : List (ℤ × ℤ)) (v : ℤ) (r f : ℤ × ℤ) (k : Known)
    → Pairwise LiesIn point inputs → Describes (offsets point inputs) v r k
    → form k inputs ≡ Some f → LiesIn v f
form-holds point inputs v r f k within d e =
    let sum = both-some pair_add (form_from (Some (k.centre, k.centre)) k.slopes inputs)
    (Some (neg_ℤ k.error, k.error)) f e in
    let same = unmoved (neg_ℤ k.error, k.error) sum.second sum.second_is in
    let parts = ends-some (plain_add sum.first.0 sum.second.0)
    (plain_add sum.first.1 sum.second.1) f sum.is in
    let low = number-is (sum.first.0 +ℤ sum.second.0) f.0 parts.low in
    let high = number-is (sum.first.1 +ℤ sum.second.1) f.1 parts.high in
    let held = formed (k.centre, k.centre) k.slopes inputs point sum.first d.ordered within
    sum.first_is in
    let bounds = d.bounds in
    record {
      low = form-low v k.centre k.error f.0 sum.first.0 (least_sum k.slopes (offsets point inputs))
          held.low bounds.low (omega (arith, ints, low, same.0));
      high = form-high v k.centre k.error f.1 sum.first.1
          (greatest_sum k.slopes (offsets point inputs)) held.high bounds.high
          (omega (arith, ints, high, same.1));
    }

common-holds : (v : ℤ) (r : ℤ × ℤ) (o : Option (ℤ × ℤ)) → LiesIn v r
    → ((f : ℤ × ℤ) → o ≡ Some f → LiesIn v f) → LiesIn v (common r o)
common-holds v r None h k = h
common-holds v r (Some f) h k =
    let inside = k f refl in
    record {
      low = omega (arith, ints, clamps, h.low, inside.low);
      high = omega (arith, ints, clamps, h.high, inside.high);
    }

least-below : (v : ℤ) (p : ℤ × ℤ) → LiesIn v p → least_abs p ≤ℤ magnitude v
least-below (pos n) p h = omega (arith, ints, clamps, h.low, h.high)
least-below (negsuc n) p h = omega (arith, ints, clamps, h.low, h.high)

pub lowest-below : LowestIsBelow
lowest-below point inputs v a within meets =
    least-below v (common a.range (option_and_then (λ k. form k inputs) a.known))
    (common-holds v a.range (option_and_then (λ k. form k inputs) a.known) meets.range
    (λ f e. let t = then-some (λ k. form k inputs) a.known f e in
    form-holds point inputs v a.range f t.0 within (meets.known t.0 t.1.0) t.1.1))

-- how far a range lies from 0
range-least : (lo hi : ℤ) → lo ≤ℤ hi → pair_low_abs (lo, hi) ≡ least_abs (lo, hi)
range-least (pos m) (pos n) h = grind (arith, ints, clamps)
range-least (pos m) (negsuc n) h = absurd (omega (arith, ints))
range-least (negsuc m) (pos n) h = grind (arith, ints, clamps)
range-least (negsuc m) (negsuc n) h = grind (arith, ints, clamps)

common-least : (r : ℤ × ℤ) (o : Option (ℤ × ℤ)) → least_abs r ≤ℤ least_abs (common r o)
common-least r None = ≤ℤ_refl (least_abs r)
common-least r (Some f) = omega (arith, ints, clamps)

pub lowest-sharper : LowestIsSharper
lowest-sharper inputs a ordered =
    subst (λ (x : ℤ). x ≤ℤ lowest a inputs) (sym (range-least a.range.0 a.range.1 ordered))
    (common-least a.range (option_and_then (λ k. form k inputs) a.known))

between : (x y l : ℤ) → x ≤ℤ y → l ≤ℤ x → l ≡ y → x ≡ y
between x y l h k e = omega (arith, ints)

pub lowest-exact : LowestIsExact
lowest-exact point inputs v a within meets one_number =
    let ordered : a.range.0 ≤ℤ a.range.1 =
    subst (λ (r : ℤ × ℤ). r.0 ≤ℤ r.1) (sym one_number) (≤ℤ_refl v) in
    between (lowest a inputs) (magnitude v) (pair_low_abs a.range)
    (lowest-below point inputs v a within meets) (lowest-sharper inputs a ordered)
    (ap pair_low_abs one_number ∙ (absolute-of_one v).0)

-- the slopes of an input give one times its offset
own-least : (n place : ℕ) (ts : List ℤ) (t : ℤ) → place < n → slice_get ts place ≡ Some t
    → least_sum (set (zeros n) place (pos one, pos one)) ts ≡ pos one *ℤ t
own-least zero place ts t h e = absurd (omega arith)
own-least (suc n) place [] t h e = cc
own-least (suc n) zero (u ∷ ts) t h e =
    let same = same_Some u t e in
    omega (arith, ints, clamps, same, least-zeros n ts)
own-least (suc n) (suc place) (u ∷ ts) t h e =
    omega (arith, ints, clamps, own-least n place ts t (omega arith) e)

own-greatest : (n place : ℕ) (ts : List ℤ) (t : ℤ) → place < n → slice_get ts place ≡ Some t
    → greatest_sum (set (zeros n) place (pos one, pos one)) ts ≡ pos one *ℤ t
own-greatest zero place ts t h e = absurd (omega arith)
own-greatest (suc n) place [] t h e = cc
own-greatest (suc n) zero (u ∷ ts) t h e =
    let same = same_Some u t e in
    omega (arith, ints, clamps, same, greatest-zeros n ts)
own-greatest (suc n) (suc place) (u ∷ ts) t h e =
    omega (arith, ints, clamps, own-greatest n place ts t (omega arith) e)

zeros-ordered : (n : ℕ) → InOrder (zeros n)
zeros-ordered zero = tt
zeros-ordered (suc n) = (≤ℤ_refl (pos 0), zeros-ordered n)

own-ordered : (n place : ℕ) → InOrder (set (zeros n) place (pos one, pos one))
own-ordered zero place = tt
own-ordered (suc n) zero = (≤ℤ_refl (pos one), zeros-ordered n)
own-ordered (suc n) (suc place) = (≤ℤ_refl (pos 0), own-ordered n place)

middle-within : (x : ℤ) (b : ℤ × ℤ) → LiesIn x b → LiesIn (middle b) b
middle-within x b h =
    let floor = floor_is (b.0 +ℤ b.1) 2 (omega arith) in
    record {
      low = omega (arith, ints, floor.high, h.low, h.high);
      high = omega (arith, ints, floor.low, h.low, h.high);
    }

own-bounds : (place : ℕ) (x : ℤ) (b : ℤ × ℤ) (ts : List ℤ) → place < 4
    → slice_get ts place ≡ Some (offset x b)
    → AreBounds (set flat place (pos one, pos one)) ts (pos one *ℤ (x -ℤ middle b))
    (pos one *ℤ pos 0)
own-bounds place x b ts h e =
    let least = own-least 4 place ts (offset x b) h e in
    let greatest = own-greatest 4 place ts (offset x b) h e in
    record {
      low = subst (λ (s : ℤ). s ≤ℤ ((pos one *ℤ (x -ℤ middle b)) +ℤ (pos one *ℤ pos 0))) (sym least)
          (omega (arith, ints));
      high = subst (λ (s : ℤ). (pos one *ℤ (x -ℤ middle b)) ≤ℤ (s +ℤ (pos one *ℤ pos 0)))
          (sym greatest)
          (omega (arith, ints));
    }

pub input-meets : InputMeets
input-meets place x b ts h within e = record {
  range = within;
  known = λ k is. subst (Describes ts x b) (same_Some _ k is)
      (record {
        centre = middle-within x b within;
        error = ≤ℤ_refl (pos 0);
        ordered = own-ordered 4 place;
        bounds = own-bounds place x b ts h e;
      });
}
