-- The worst of distortions that are defined, and that of distortions between two others.
use Rattle.std.proofs.Common.{◌≡◌, ℕ, suc, ◌+◌, ◌≤◌, max, Bool, true, false, cond, length}
use Rattle.std.proofs.Common.{ℤ, pos, nat_abs, ◌≤ℤ◌, List, [], ◌∷◌, inl, inr}
use Rattle.std.proofs.Common.{arith, refl, sym, ap, ◌∙◌}
use Rattle.std.specs.Prelude.{Option, Some, None, IsSome, option_map, nat_lt, position}
use Rattle.std.specs.Option.{is_none}
use Rattle.std.specs.List.{position_or_len}
use Rattle.std.proofs.lemmas.Bool.{lt-ltb}
use Rattle.std.proofs.lemmas.Bool.Decides.{nat_tests}
use Rattle.std.proofs.lemmas.Int.{ints}
use Rattle.std.proofs.lemmas.List.Elements.{All-nil, All-cons, All-head, All-tail}
use Rattle.std.proofs.lemmas.Option.{none-some}
use Rattle.ldp_problem.specs.Costs.{largest}
use Rattle.ldp_distortion.specs.Worst.{absolute_values, worst_at, worst_of, IsUsable}
use Rattle.ldp_distortion.specs.declared.worst.Worst.{Worst}
use Rattle.ldp_distortion.specs.declared.worst.Worst.TheVariants as worsts
use Rattle.ldp_tolerance.specs.Moves.{LiesBetween}
use Rattle.ldp_tolerance.specs.Slack.{IsAtMost, HasWorst}

-- the largest absolute value of those that are defined
abbrev pub most : List (Option ℤ) → ℕ
most ds = largest (absolute_values ds)

pub most-cons : (o : Option ℤ) (v : ℤ) (more : List (Option ℤ)) → o ≡ Some v
    → most (o ∷ more) ≡ max (nat_abs v) (most more)
most-cons o v more e = rw e refl

pub size-between : (v a b : ℤ) → LiesBetween v a b → nat_abs v ≤ max (nat_abs a) (nat_abs b)
size-between v a b (inl e) = omega (arith, ints, e.0, e.1)
size-between v a b (inr e) = omega (arith, ints, e.0, e.1)

-- the first undefined place, of one more at the front
place-by : (k l : ℕ) (within : Bool) → nat_lt k l ≡ within
    → cond (nat_lt (1 + k) (suc l)) (Some (1 + k)) None
    ≡ option_map suc (cond (nat_lt k l) (Some k) None)
place-by k l true e =
    let test : nat_lt (1 + k) (suc l) ≡ true = grind (arith, nat_tests) in
    let next : 1 + k ≡ suc k = omega arith in
    rw (test, e) (ap Some next)
place-by k l false e =
    let test : nat_lt (1 + k) (suc l) ≡ false = grind (arith, nat_tests) in
    rw (test, e) refl

undefined-later : (d : ℤ) (more : List (Option ℤ))
    → position is_none (Some d ∷ more) ≡ option_map suc (position is_none more)
undefined-later d more =
    place-by (position_or_len is_none more) (length more)
    (nat_lt (position_or_len is_none more) (length more)) refl

undefined-here : (more : List (Option ℤ)) → position is_none (None ∷ more) ≡ Some 0
undefined-here more =
    let test : nat_lt 0 (suc (length more)) ≡ true = lt-ltb 0 (suc (length more)) (omega arith) in
    rw test refl

abbrev IsDefined : Option ℤ → Type 0
IsDefined d = IsSome d

before-none : (o : Option ℕ) → option_map suc o ≡ None → o ≡ None
before-none None e = refl
before-none (Some n) e = cc

none-usable : (ds : List (Option ℤ)) → position is_none ds ≡ None → IsUsable ds
none-usable [] e = All-nil IsDefined
none-usable (None ∷ more) e = absurd (none-some 0 (sym e ∙ undefined-here more))
none-usable (Some d ∷ more) e =
    All-cons IsDefined (Some d) more refl
    (none-usable more (before-none (position is_none more) (sym (undefined-later d more) ∙ e)))

usable-none : (ds : List (Option ℤ)) → IsUsable ds → position is_none ds ≡ None
usable-none [] h = refl
usable-none (None ∷ more) h =
    let undefined : IsDefined None = All-head IsDefined None more h in
    absurd (cc)
usable-none (Some d ∷ more) h =
    undefined-later d more
    ∙ ap (option_map suc) (usable-none more (All-tail IsDefined (Some d) more h))

-- the value of a worst
abbrev value_in : Worst → ℤ
value_in (worsts.Is value cell) = value
value_in (worsts.Unusable cell) = pos 0

value-at : (place : Option ℕ) (values : List ℕ) (v : ℤ) (i : ℕ)
    → worst_at place values ≡ worsts.Is v i → pos (largest values) ≡ v
value-at (Some cell) values v i e = cc
value-at None values v i e = ap value_in e

place-none : (place : Option ℕ) (values : List ℕ) (v : ℤ) (i : ℕ)
    → worst_at place values ≡ worsts.Is v i → place ≡ None
place-none (Some cell) values v i e = cc
place-none None values v i e = refl

pub value-most : (ds : List (Option ℤ)) (v : ℤ) (i : ℕ) → worst_of ds ≡ worsts.Is v i
    → pos (most ds) ≡ v
unfolding worst_of
value-most ds v i e = value-at (position is_none ds) (absolute_values ds) v i e

pub value-usable : (ds : List (Option ℤ)) (v : ℤ) (i : ℕ) → worst_of ds ≡ worsts.Is v i
    → IsUsable ds
unfolding worst_of
value-usable ds v i e =
    none-usable ds (place-none (position is_none ds) (absolute_values ds) v i e)

at-most-at : (place : Option ℕ) (values : List ℕ) (n : ℤ) → place ≡ None
    → pos (largest values) ≤ℤ n → IsAtMost n (worst_at place values)
at-most-at (Some cell) values n e h = cc
at-most-at None values n e h = h

pub at-most : (ds : List (Option ℤ)) (n : ℤ) → IsUsable ds → pos (most ds) ≤ℤ n
    → IsAtMost n (worst_of ds)
unfolding worst_of
at-most ds n usable h =
    at-most-at (position is_none ds) (absolute_values ds) n (usable-none ds usable) h

pub has-worst : (worst : Worst) (v : ℤ) (i : ℕ) → worst ≡ worsts.Is v i → HasWorst v worst
has-worst worst v i e = rw e refl
