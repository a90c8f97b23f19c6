-- The written operations of each carrier. What a carrier's value means is a list of numbers:
-- carrier 0 is the plain number, a list of one; carrier 1 is the range, a list of its low and its
-- high end; carrier 2 is the item of slopes, a list of the ends of its range, whether more is known,
-- its centre, its error and the ends of its slopes; carrier 3 is the twin, a list of the four ends of
-- its two ranges.
use Rattle.std.specs.Prelude.{ℕ, zero, suc, ℤ, pos, negsuc, List, [], ◌∷◌, Option, Some, None, option_map}
use Rattle.std.specs.Prelude.{option_and_then}
use Rattle.ldp_num.specs.Plain.{plain_add, plain_sub, plain_mul, plain_div, plain_sq, plain_sqrt}
use Rattle.ldp_num.specs.Plain.{plain_need}
use Rattle.ldp_num.specs.Ranges.{pair_add, pair_sub, pair_mul, pair_div, pair_sq, pair_sqrt}
use Rattle.ldp_num.specs.Ranges.{pair_need}
use Rattle.ldp_num.specs.Twins.{TwinPair, twin_add, twin_sub, twin_mul, twin_div, twin_sq}
use Rattle.ldp_num.specs.Twins.{twin_sqrt, twin_need}
use Rattle.ldp_num.specs.Slopes.{Known, Item, item, flat, slope_constant, slope_add, slope_sub}
use Rattle.ldp_num.specs.Slopes.{slope_times, slope_over, slope_sq, slope_sqrt, slope_need}

-- the operations of a formula over any type of value
pub record Ops (A : Type 0) : Type 0 where
  pub constant : ℤ → A
  pub add : A → A → Option A
  pub sub : A → A → Option A
  pub mul : A → A → Option A
  pub div : A → A → Option A
  pub sq : A → Option A
  pub sqrt : A → Option A
  pub need : A → Option A

-- the plain operations, over numbers
abbrev pub number_ops : Ops ℤ
number_ops = record {
  constant = λ v. v;
  add = plain_add;
  sub = plain_sub;
  mul = plain_mul;
  div = plain_div;
  sq = plain_sq;
  sqrt = plain_sqrt;
  need = plain_need;
}

-- the range operations, over pairs
abbrev pub range_ops : Ops (ℤ × ℤ)
range_ops = record {
  constant = λ v. (v, v);
  add = pair_add;
  sub = pair_sub;
  mul = pair_mul;
  div = pair_div;
  sq = pair_sq;
  sqrt = pair_sqrt;
  need = pair_need;
}

-- the operations on twins; a number is both ends of both ranges
abbrev pub twin_ops : Ops TwinPair
twin_ops = record {
  constant = λ v. ((v, v), (v, v));
  add = twin_add;
  sub = twin_sub;
  mul = twin_mul;
  div = twin_div;
  sq = twin_sq;
  sqrt = twin_sqrt;
  need = twin_need;
}

-- the operations on items of slopes; a number is its own centre, and depends on no design input
abbrev pub slope_ops : Ops Item
slope_ops = record {
  constant = slope_constant;
  add = slope_add;
  sub = slope_sub;
  mul = slope_times;
  div = slope_over;
  sq = slope_sq;
  sqrt = slope_sqrt;
  need = slope_need;
}

-- an operation of one value over the list of numbers that it means
abbrev pub of_one : {A : Type 0} → (List ℤ → Option A) → (A → List ℤ) → (A → Option A)
    → List ℤ → Option (List ℤ)
of_one from out f xs = option_map out (option_and_then f (from xs))

-- an operation of two values over the lists of numbers that they mean; undefined if a list means
-- none
abbrev pub of_two : {A : Type 0} → (List ℤ → Option A) → (A → List ℤ) → (A → A → Option A)
    → List ℤ → List ℤ → Option (List ℤ)
of_two from out f xs ys =
    option_map out (option_and_then (λ a. option_and_then (f a) (from ys)) (from xs))

-- the same operations over the lists of numbers that the values mean
abbrev pub listed : {A : Type 0} → (List ℤ → Option A) → (A → List ℤ) → Ops A → Ops (List ℤ)
listed from out ops = record {
  constant = λ v. out (ops.constant v);
  add = of_two from out ops.add;
  sub = of_two from out ops.sub;
  mul = of_two from out ops.mul;
  div = of_two from out ops.div;
  sq = of_one from out ops.sq;
  sqrt = of_one from out ops.sqrt;
  need = of_one from out ops.need;
}

-- a number is the list of itself alone
abbrev pub plain_in : List ℤ → Option ℤ
plain_in (n ∷ []) = Some n
plain_in _ = None

-- the list that a number means
abbrev pub plain_out : ℤ → List ℤ
plain_out n = n ∷ []

-- a range is the list of its low and its high end
abbrev pub pair_in : List ℤ → Option (ℤ × ℤ)
pair_in (low ∷ high ∷ []) = Some (low, high)
pair_in _ = None

-- the list that a range means: its low and its high end
abbrev pub pair_out : ℤ × ℤ → List ℤ
pair_out a = a.0 ∷ a.1 ∷ []

-- pairs of slopes are the list of their ends
abbrev pub slopes_in : List ℤ → Option (List (ℤ × ℤ))
slopes_in [] = Some []
slopes_in (low ∷ []) = None
slopes_in (low ∷ high ∷ rest) = option_map (λ slopes. (low, high) ∷ slopes) (slopes_in rest)

-- the list that pairs of slopes mean: the low and the high end of each
abbrev pub slopes_out : List (ℤ × ℤ) → List ℤ
slopes_out [] = []
slopes_out (s ∷ slopes) = s.0 ∷ s.1 ∷ slopes_out slopes

-- what is known of an item is 1, the centre, the error and the slopes; where no more than its range
-- is known, 0 stands at each place
abbrev pub known_in : ℤ → ℤ → ℤ → List ℤ → Option (Option Known)
known_in (pos zero) centre error rest = Some None
known_in (pos (suc zero)) centre error rest =
    option_map (λ slopes. Some (record { centre = centre; error = error; slopes = slopes }))
    (slopes_in rest)
known_in (pos (suc (suc _))) centre error rest = None
known_in (negsuc _) centre error rest = None

-- the list that is of what is known: 1, the centre, the error and the slopes, or zeros alone
abbrev pub known_out : Option Known → List ℤ
known_out None = pos 0 ∷ pos 0 ∷ pos 0 ∷ slopes_out flat
known_out (Some k) = pos 1 ∷ k.centre ∷ k.error ∷ slopes_out k.slopes

-- an item is the list of the ends of its range, and of what is known of it
abbrev pub slope_in : List ℤ → Option Item
slope_in (low ∷ high ∷ known ∷ centre ∷ error ∷ rest) =
    option_map (λ k. item k (low, high)) (known_in known centre error rest)
slope_in _ = None

-- the list that an item means
abbrev pub slope_out : Item → List ℤ
slope_out a = a.range.0 ∷ a.range.1 ∷ known_out a.known

-- a twin is the list of the ends of its first and of its second range
abbrev pub twin_in : List ℤ → Option TwinPair
twin_in (a ∷ b ∷ c ∷ d ∷ []) = Some ((a, b), (c, d))
twin_in _ = None

-- the list that a twin means: the four ends of its two ranges
abbrev pub twin_out : TwinPair → List ℤ
twin_out t = t.0.0 ∷ t.0.1 ∷ t.1.0 ∷ t.1.1 ∷ []

-- under a number that names no carrier nothing is defined
abbrev pub no_ops : Ops (List ℤ)
no_ops = record {
  constant = λ _. [];
  add = λ _ _. None;
  sub = λ _ _. None;
  mul = λ _ _. None;
  div = λ _ _. None;
  sq = λ _. None;
  sqrt = λ _. None;
  need = λ _. None;
}

-- the written operations of the carrier with this number
abbrev pub written : ℕ → Ops (List ℤ)
written zero = listed plain_in plain_out number_ops
written (suc zero) = listed pair_in pair_out range_ops
written (suc (suc zero)) = listed slope_in slope_out slope_ops
written (suc (suc (suc zero))) = listed twin_in twin_out twin_ops
written (suc (suc (suc (suc k)))) = no_ops
