-- The best of the ranked designs.
use Rattle.std.proofs.Common.{◌≡◌, ℕ, Bool, true, false, cond, List, [], ◌∷◌, Option, None, Some}
use Rattle.std.proofs.Common.{refl, sym, ap, subst, ◌∙◌, inl, inr}
use Rattle.std.proofs.lemmas.Cmp.{tied_itself}
use Rattle.std.specs.Prelude.{filter_map}
use Rattle.std.specs.Option.{is_none}
use Rattle.std.specs.List.{reduce, fold}
use Rattle.std.specs.Ordering.{is_lt, ordering_then}
use Rattle.std.specs.declared.cmp.Ordering.{Ordering}
use Rattle.std.specs.declared.cmp.Ordering.TheVariants.{Less, Equal, Greater}
use Rattle.ldp_design.specs.declared.design.Design.{Design}
use Rattle.ldp_design.specs.Designs.{IsAdmitted, design_cmp}
use Rattle.ldp_problem.specs.Problem.{Problem}
use Rattle.ldp_problem.specs.Pairs.{AtMost, pair_cmp}
use Rattle.ldp_problem.specs.Costs.{IsUsable, cost, first_undefined}
use Rattle.ldp_problem.proofs.Facts.{none_undefined, usable_has_none}
use Rattle.ldp_optimum.specs.Best.{Ranked, rank, is_better, better, all_designs, best}
use Rattle.ldp_optimum.specs.Laws.{IsRankOf, IsRanked}
use Rattle.ldp_optimum.proofs.Members.{Member, kept, of_filter_map}
use Rattle.ldp_optimum.proofs.Listed.{admitted_listed, listed_admitted}
use Rattle.ldp_problem.proofs.Pairs.{pair_total}
use Rattle.ldp_optimum.proofs.Order.{better_weak, not_better_itself, same_ranked}

-- ranks
pub usable_ranked : (p : Problem) (d : Design) → IsUsable p d
    → rank p d ≡ Some record { design = d; cost = cost p d }
usable_ranked p d usable = ranked_at (first_undefined p d) (usable_has_none p d usable)
  where
    ranked_at : (o : Option ℕ) → o ≡ None
        → cond {A = Option Ranked} (is_none o) (Some record { design = d; cost = cost p d }) None
        ≡ Some record { design = d; cost = cost p d }
    ranked_at None e = refl
    ranked_at (Some c) e = absurd cc

pub ranked_usable : (p : Problem) (d : Design) (x : Ranked) → rank p d ≡ Some x → IsRankOf p d x
ranked_usable p d x e = ranked_at (first_undefined p d) refl e
  where
    ranked_at : (o : Option ℕ) → first_undefined p d ≡ o
        → cond {A = Option Ranked} (is_none o) (Some record { design = d; cost = cost p d }) None
        ≡ Some x → IsRankOf p d x
    ranked_at None u h =
        let same : record { design = d; cost = cost p d } ≡ x = cc in
        record {
          usable = none_undefined p d u;
          design = ap (λ r. r.design) (sym same);
          cost = ap (λ r. r.cost) (sym same);
        }
    ranked_at (Some c) u h = absurd cc

-- the best so far is one of the list
best_within : (a : Ranked) (xs : List Ranked) → Member (fold better a xs) (a ∷ xs)
best_within a [] = inl refl
best_within a (x ∷ xs) = by_test (is_better x a) (best_within x xs) (best_within a xs)
  where
    by_test : (t : Bool) → Member (fold better x xs) (x ∷ xs) → Member (fold better a xs) (a ∷ xs)
        → Member (fold better (cond t x a) xs) (a ∷ x ∷ xs)
    by_test true m n = inr m
    by_test false m (inl e) = inl e
    by_test false m (inr n) = inr (inr n)

-- of two the better one is beaten by neither
better_of : (a x : Ranked) → (is_better a (better a x) ≡ false) × (is_better x (better a x) ≡ false)
better_of a x = by_test (is_better x a) refl
  where
    by_test : (t : Bool) → is_better x a ≡ t
        → (is_better a (cond t x a) ≡ false) × (is_better x (cond t x a) ≡ false)
    by_test true e = (better_weak.one_way x a e, not_better_itself x)
    by_test false e = (not_better_itself a, e)

best_unbeaten : (a : Ranked) (xs : List Ranked) (y : Ranked) → Member y (a ∷ xs)
    → is_better y (fold better a xs) ≡ false
best_unbeaten a [] y (inl e) = subst (λ z. is_better z a ≡ false) e (not_better_itself a)
best_unbeaten a [] y (inr m) = absurd m
best_unbeaten a (x ∷ xs) y (inl e) =
    better_weak.chain y (better a x) (fold better (better a x) xs)
    (subst (λ z. is_better z (better a x) ≡ false) e (better_of a x).0)
    (best_unbeaten (better a x) xs (better a x) (inl refl))
best_unbeaten a (x ∷ xs) y (inr (inl e)) =
    better_weak.chain y (better a x) (fold better (better a x) xs)
    (subst (λ z. is_better z (better a x) ≡ false) e (better_of a x).1)
    (best_unbeaten (better a x) xs (better a x) (inl refl))
best_unbeaten a (x ∷ xs) y (inr (inr m)) = best_unbeaten (better a x) xs y (inr m)

reduced_within : (xs : List Ranked) (x : Ranked) → reduce better xs ≡ Some x → Member x xs
reduced_within [] x e = absurd cc
reduced_within (a ∷ xs) x e =
    let same : fold better a xs ≡ x = cc in subst (λ z. Member z (a ∷ xs)) same (best_within a xs)

reduced_unbeaten : (xs : List Ranked) (x y : Ranked) → reduce better xs ≡ Some x → Member y xs
    → is_better y x ≡ false
reduced_unbeaten [] x y e m = absurd m
reduced_unbeaten (a ∷ xs) x y e m =
    let same : fold better a xs ≡ x = cc in
    subst (λ z. is_better y z ≡ false) same (best_unbeaten a xs y m)

-- the ranked designs
ranked_of : Problem → List Ranked
ranked_of p = filter_map (rank p) (all_designs p.families)

ranked_listed : (p : Problem) (x : Ranked) → IsRanked p x → Member x (ranked_of p)
unfolding ranked_of
ranked_listed p x r =
    kept (rank p) x.design x (all_designs p.families)
    (admitted_listed p.families x.design r.admitted) r.ranked

listed_ranked : (p : Problem) (x : Ranked) → Member x (ranked_of p) → IsRanked p x
unfolding ranked_of
listed_ranked p x m =
    let from = of_filter_map (rank p) x (all_designs p.families) m in
    let is : IsRankOf p from.source x = ranked_usable p from.source x from.gives in
    record {
      admitted = subst (IsAdmitted p.families) (sym is.design)
          (listed_admitted p.families from.source from.has);
      ranked = ap (rank p) is.design ∙ from.gives;
    }

best_reduced : (p : Problem) → best p ≡ reduce better (ranked_of p)
unfolding best ranked_of
best_reduced p = refl

pub best_ranked : (p : Problem) (x : Ranked) → best p ≡ Some x → IsRanked p x
best_ranked p x e = listed_ranked p x (reduced_within (ranked_of p) x (sym (best_reduced p) ∙ e))

pub best_beats : (p : Problem) (x y : Ranked) → best p ≡ Some x → IsRanked p y
    → is_better y x ≡ false
best_beats p x y e r =
    reduced_unbeaten (ranked_of p) x y (sym (best_reduced p) ∙ e) (ranked_listed p y r)

admitted_ranked : (p : Problem) (d : Design) → IsAdmitted p.families d → IsUsable p d
    → IsRanked p record { design = d; cost = cost p d }
admitted_ranked p d a u = record { admitted = a; ranked = usable_ranked p d u }

first_at_most : (o q : Ordering) → is_lt (ordering_then o q) ≡ false → is_lt o ≡ false
first_at_most Less q h = absurd cc
first_at_most Equal q h = refl
first_at_most Greater q h = refl

then_at_most : (o q : Ordering) → is_lt (ordering_then o q) ≡ false → o ≡ Equal → is_lt q ≡ false
then_at_most Less q h e = absurd cc
then_at_most Equal q h e = h
then_at_most Greater q h e = absurd cc

pub best_least : (p : Problem) (x : Ranked) (d : Design) → best p ≡ Some x → IsAdmitted p.families d
    → IsUsable p d → AtMost x.cost (cost p d)
best_least p x d e a u =
    first_at_most (pair_cmp (cost p d) x.cost) (design_cmp d x.design)
    (best_beats p x record { design = d; cost = cost p d } e (admitted_ranked p d a u))

pub best_first : (p : Problem) (x : Ranked) (d : Design) → best p ≡ Some x → IsAdmitted p.families d
    → IsUsable p d → cost p d ≡ x.cost → is_lt (design_cmp d x.design) ≡ false
best_first p x d e a u same =
    then_at_most (pair_cmp (cost p d) x.cost) (design_cmp d x.design)
    (best_beats p x record { design = d; cost = cost p d } e (admitted_ranked p d a u))
    (ap (λ c. pair_cmp c x.cost) same ∙ tied_itself pair_total x.cost)

none_of : (xs : List Ranked) (y : Ranked) → reduce better xs ≡ None → Member y xs → ⊥
none_of [] y e m = m
none_of (x ∷ xs) y e m = absurd cc

pub no_best_none_usable : (p : Problem) (d : Design) → best p ≡ None → IsAdmitted p.families d
    → IsUsable p d → ⊥
no_best_none_usable p d e a u =
    none_of (ranked_of p) record { design = d; cost = cost p d } (sym (best_reduced p) ∙ e)
    (ranked_listed p record { design = d; cost = cost p d } (admitted_ranked p d a u))

pub unbeaten_best : (p : Problem) (x : Ranked) → IsRanked p x
    → ((y : Ranked) → IsRanked p y → is_better y x ≡ false) → best p ≡ Some x
unbeaten_best p x r unbeaten = by_best (best p) refl
  where
    by_best : (o : Option Ranked) → best p ≡ o → best p ≡ Some x
    by_best None e =
        absurd (none_of (ranked_of p) x (sym (best_reduced p) ∙ e) (ranked_listed p x r))
    by_best (Some z) e =
        e ∙ ap Some (same_ranked z x (unbeaten z (best_ranked p z e)) (best_beats p z x e r))

pub none_usable_no_best : (p : Problem)
    → ((d : Design) → IsAdmitted p.families d → IsUsable p d → ⊥)
    → best p ≡ None
none_usable_no_best p none = by_best (best p) refl
  where
    by_best : (o : Option Ranked) → best p ≡ o → best p ≡ None
    by_best None e = e
    by_best (Some z) e =
        let r : IsRanked p z = best_ranked p z e in
        let is : IsRankOf p z.design z = ranked_usable p z.design z r.ranked in
        absurd (none z.design r.admitted is.usable)
