-- Bounds and costs in order.
use Rattle.std.proofs.Common.{◌≡◌, Bool, true, false, ◌||◌, List, [], ◌∷◌, map, refl, ap}
use Rattle.std.proofs.lemmas.Cmp.{tied_itself}
use Rattle.std.proofs.lemmas.List.Elements.{All-nil, All-cons}
use Rattle.std.specs.Prelude.{All}
use Rattle.std.specs.BinaryHeap.{IsUpperBound}
use Rattle.std.specs.Ordering.{ordering_then, is_lt}
use Rattle.std.specs.declared.cmp.Ordering.{Ordering}
use Rattle.std.specs.declared.cmp.Ordering.TheVariants.{Less, Equal, Greater}
use Rattle.std.specs.declared.cmp.Reverse.{Reverse}
use Rattle.ldp_design.specs.Designs.{design_cmp}
use Rattle.ldp_problem.specs.declared.pair.Pair.{Pair}
use Rattle.ldp_problem.specs.Pairs.{AtMost, is_smaller, pair_cmp}
use Rattle.ldp_problem.proofs.Pairs.{pair_total, at_most_trans}
use Rattle.ldp_optimum.specs.Best.{Ranked, is_better}
use Rattle.ldp_optimum.proofs.Order.{better_weak}
use Rattle.ldp_search.specs.declared.bounded_box.BoundedBox.{BoundedBox}
use Rattle.ldp_search.specs.Bounded.{box_cmp, bounded_cmp}

pub or_true : (t : Bool) → (t || true) ≡ true
or_true true = refl
or_true false = refl

-- what comes first decides unless it is equal
pub first_not_lt : (o q : Ordering) → is_lt (ordering_then o q) ≡ false → is_lt o ≡ false
first_not_lt Less q h = h
first_not_lt Equal q h = refl
first_not_lt Greater q h = refl

pub first_lt : (o q : Ordering) → is_lt o ≡ true → is_lt (ordering_then o q) ≡ true
first_lt Less q h = refl
first_lt Equal q h = absurd cc
first_lt Greater q h = absurd cc

-- what is greatest in the reversed order has the smallest bound
pub least_of_heap : (b : Reverse BoundedBox) (others : List (Reverse BoundedBox))
    → IsUpperBound (λ x y. bounded_cmp y.0 x.0) b others
    → All (λ other. AtMost b.0.low other.low) (map (λ other. other.0) others)
least_of_heap b [] h = All-nil (λ other. AtMost b.0.low other.low)
least_of_heap b (other ∷ others) h =
    All-cons (λ x. AtMost b.0.low x.low) other.0 (map (λ x. x.0) others)
    (first_not_lt (pair_cmp other.0.low b.0.low) (box_cmp other.0.region b.0.region) h.0)
    (least_of_heap b others h.1)

pub at_most_itself : (a : Pair) → AtMost a a
at_most_itself a = ap is_lt (tied_itself pair_total a)

-- a pair below another one is below each that is no smaller
pub below_at_most : (a b c : Pair) → is_smaller a b ≡ true → AtMost b c → is_smaller a c ≡ true
below_at_most a b c h k = by_test (is_smaller a c) refl
  where
    by_test : (t : Bool) → is_smaller a c ≡ t → is_smaller a c ≡ true
    by_test true e = e
    by_test false e =
        let contrary : is_smaller a b ≡ false = at_most_trans b c a k e in absurd cc

pub at_most_below : (a b c : Pair) → AtMost a b → is_smaller b c ≡ true → is_smaller a c ≡ true
at_most_below a b c h k = by_test (is_smaller a c) refl
  where
    by_test : (t : Bool) → is_smaller a c ≡ t → is_smaller a c ≡ true
    by_test true e = e
    by_test false e =
        let contrary : is_smaller b c ≡ false = at_most_trans c a b e h in absurd cc

-- of ranked designs
pub better_at_most : (x y : Ranked) → is_better y x ≡ false → AtMost x.cost y.cost
better_at_most x y h = first_not_lt (pair_cmp y.cost x.cost) (design_cmp y.design x.design) h

pub below_better : (x y : Ranked) → is_smaller x.cost y.cost ≡ true → is_better y x ≡ false
below_better x y h =
    better_weak.one_way x y (first_lt (pair_cmp x.cost y.cost) (design_cmp x.design y.design) h)
