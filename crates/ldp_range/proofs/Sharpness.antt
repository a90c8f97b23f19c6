-- Each operation at pairs of equal ends is the pair of the number's.
use Rattle.std.proofs.Common.{◌≡◌, true, List, [], ◌∷◌, map, Option, Some, None, option_map, ℤ, pos}
use Rattle.std.proofs.Common.{negsuc, ap, sym, ◌∙◌, ◌≤ℤ◌, refl, arith}
use Rattle.std.specs.Prelude.{int_le}
use Rattle.std.specs.Int.{int_min, int_max}
use Rattle.std.proofs.lemmas.Int.{ints, clamps}
use Rattle.std.proofs.lemmas.Option.{same_Some}
use Rattle.ldp_num.specs.Plain.{plain_sq}
use Rattle.ldp_num.specs.Ranges.{ends, hull_of, pair_sq}
use Rattle.ldp_num.specs.Written.{number_ops, range_ops}
use Rattle.ldp_num.specs.Steps.{results_of}
use Rattle.ldp_num.specs.StepList.{value, value_in}
use Rattle.ldp_range.specs.Range.{twice}
use Rattle.ldp_range.specs.Laws.{Sharpness, StepSharpness}
use Rattle.ldp_range.proofs.Follows.{results_follow, values_follow}
use Rattle.ldp_range.specs.Related.{Pairwise, Reaches, FollowsOne, FollowsTwo, Follows}

-- the pair of the number, and the number of the pair
abbrev IsTwice : ℤ × ℤ → ℤ → Type 0
IsTwice pair n = pair ≡ twice n

abbrev IsHalf : ℤ → ℤ × ℤ → Type 0
IsHalf n pair = pair ≡ twice n

ends-twice : (o : Option ℤ) → ends o o ≡ option_map twice o
ends-twice None = refl
ends-twice (Some n) = refl

least-self : (n : ℤ) → int_min n (int_min n (int_min n n)) ≡ n
least-self n = omega (arith, ints, clamps)

greatest-self : (n : ℤ) → int_max n (int_max n (int_max n n)) ≡ n
greatest-self n = omega (arith, ints, clamps)

hull-twice : (o : Option ℤ) → hull_of (o ∷ o ∷ o ∷ o ∷ []) ≡ option_map twice o
hull-twice None = refl
hull-twice (Some n) = rw (least-self n, greatest-self n)

not-negative : (n : ℤ) → pos 0 ≤ℤ n → int_le (pos 0) n ≡ true
not-negative n h = grind (arith, ints)

sq-twice : (n : ℤ) → pair_sq (twice n) ≡ option_map twice (plain_sq n)
sq-twice (pos n) = rw (not-negative (pos n) (omega (arith, ints))) (ends-twice (plain_sq (pos n)))
sq-twice (negsuc n) = ends-twice (plain_sq (negsuc n))

-- what an equation of this kind tells, both ways
half-reached : (o : Option ℤ) (t : ℤ × ℤ) → option_map twice o ≡ Some t → Reaches IsHalf o t
half-reached None t e = cc
half-reached (Some n) t e = record { value = n; is = refl; related = sym (same_Some (twice n) t e) }

twice-reached : (o : Option ℤ) (n : ℤ) → o ≡ Some n → Reaches IsTwice (option_map twice o) n
twice-reached o n e = record { value = twice n; is = ap (option_map twice) e; related = refl }

two-half : (f : ℤ → ℤ → Option ℤ) (g : ℤ × ℤ → ℤ × ℤ → Option (ℤ × ℤ))
    → ((a c : ℤ) → g (twice a) (twice c) ≡ option_map twice (f a c))
    → FollowsTwo IsHalf f g
two-half f g same a c b d t x y e = half-reached (f a c) t (sym (same a c) ∙ (rw (x, y) at e))

two-twice : (f : ℤ → ℤ → Option ℤ) (g : ℤ × ℤ → ℤ × ℤ → Option (ℤ × ℤ))
    → ((a c : ℤ) → g (twice a) (twice c) ≡ option_map twice (f a c))
    → FollowsTwo IsTwice g f
two-twice f g same b d a c n x y e = rw (x, y, same a c) (twice-reached (f a c) n e)

one-half : (f : ℤ → Option ℤ) (g : ℤ × ℤ → Option (ℤ × ℤ))
    → ((a : ℤ) → g (twice a) ≡ option_map twice (f a)) → FollowsOne IsHalf f g
one-half f g same a b t x e = half-reached (f a) t (sym (same a) ∙ (rw x at e))

one-twice : (f : ℤ → Option ℤ) (g : ℤ × ℤ → Option (ℤ × ℤ))
    → ((a : ℤ) → g (twice a) ≡ option_map twice (f a)) → FollowsOne IsTwice g f
one-twice f g same b a n x e = rw (x, same a) (twice-reached (f a) n e)

halves-follow : Follows IsHalf number_ops range_ops
halves-follow = record {
  constant = λ v. refl;
  add = two-half number_ops.add range_ops.add (λ a c. ends-twice (number_ops.add a c));
  sub = two-half number_ops.sub range_ops.sub (λ a c. ends-twice (number_ops.sub a c));
  mul = two-half number_ops.mul range_ops.mul (λ a c. hull-twice (number_ops.mul a c));
  div = two-half number_ops.div range_ops.div (λ a c. hull-twice (number_ops.div a c));
  sq = one-half number_ops.sq range_ops.sq sq-twice;
  sqrt = one-half number_ops.sqrt range_ops.sqrt (λ a. ends-twice (number_ops.sqrt a));
  need = one-half number_ops.need range_ops.need (λ a. ends-twice (number_ops.need a));
}

twices-follow : Follows IsTwice range_ops number_ops
twices-follow = record {
  constant = λ v. refl;
  add = two-twice number_ops.add range_ops.add (λ a c. ends-twice (number_ops.add a c));
  sub = two-twice number_ops.sub range_ops.sub (λ a c. ends-twice (number_ops.sub a c));
  mul = two-twice number_ops.mul range_ops.mul (λ a c. hull-twice (number_ops.mul a c));
  div = two-twice number_ops.div range_ops.div (λ a c. hull-twice (number_ops.div a c));
  sq = one-twice number_ops.sq range_ops.sq sq-twice;
  sqrt = one-twice number_ops.sqrt range_ops.sqrt (λ a. ends-twice (number_ops.sqrt a));
  need = one-twice number_ops.need range_ops.need (λ a. ends-twice (number_ops.need a));
}

points-halves : (points : List ℤ) → Pairwise IsHalf points (map twice points)
points-halves [] = tt
points-halves (n ∷ ns) = (refl, points-halves ns)

points-twices : (points : List ℤ) → Pairwise IsTwice (map twice points) points
points-twices [] = tt
points-twices (n ∷ ns) = (refl, points-twices ns)

twices-map : (pairs : List (ℤ × ℤ)) (values : List ℤ) → Pairwise IsTwice pairs values
    → pairs ≡ map twice values
twices-map [] [] h = refl
twices-map [] (n ∷ ns) h = absurd h
twices-map (p ∷ ps) [] h = absurd h
twices-map (p ∷ ps) (n ∷ ns) h = let tail = twices-map ps ns h.1 in rw (h.0, tail)

-- two runs that follow one another both ways
both-ways : (values : Option (List ℤ)) (pairs : Option (List (ℤ × ℤ)))
    → ((ps : List (ℤ × ℤ)) → pairs ≡ Some ps → Reaches (Pairwise IsHalf) values ps)
    → ((ns : List ℤ) → values ≡ Some ns → Reaches (Pairwise IsTwice) pairs ns)
    → pairs ≡ option_map (map twice) values
both-ways None None down up = refl
both-ways None (Some ps) down up = let found = (down ps refl).is in cc
both-ways (Some ns) pairs down up =
    let found = up ns refl in
    found.is ∙ ap Some (twices-map found.value ns found.related)

pub sharpness : Sharpness
sharpness list points =
    both-ways (value list points) (value_in range_ops list (map twice points))
    (λ ps e. values_follow IsHalf number_ops range_ops halves-follow list points (map twice points)
    ps (points-halves points) e)
    (λ ns e. values_follow IsTwice range_ops number_ops twices-follow list (map twice points) points
    ns (points-twices points) e)

pub step-sharpness : StepSharpness
step-sharpness steps points =
    both-ways (results_of number_ops points steps) (results_of range_ops (map twice points) steps)
    (λ ps e. results_follow IsHalf number_ops range_ops halves-follow steps points
    (map twice points) ps (points-halves points) e)
    (λ ns e. results_follow IsTwice range_ops number_ops twices-follow steps (map twice points)
    points ns (points-twices points) e)
