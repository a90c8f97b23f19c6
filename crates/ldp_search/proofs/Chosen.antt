-- The box that is split next, and the end of the search.
use Rattle.std.proofs.Common.{◌≡◌, ◌≤◌, ◌+◌, ℕ, zero, suc, true, false, List, [], ◌∷◌, inl, inr}
use Rattle.std.proofs.Common.{length, Option, None, Some, refl, sym, ap, subst, ◌∙◌, arith}
use Rattle.std.proofs.lemmas.List.Elements.{All-nil, All-cons, All-head, All-tail, All-weaker}
use Rattle.std.proofs.lemmas.List.Sorted.{All-permutation, IsPermutation-sym, length_permutation}
use Rattle.std.proofs.lemmas.List.Sorted.{sum_by_popped}
use Rattle.std.proofs.lemmas.List.Sums.{sum_by-cons}
use Rattle.std.proofs.lemmas.Option.{slice_get_within}
use Rattle.std.specs.Prelude.{All, Any, option_map}
use Rattle.std.specs.List.Sorted.{IsPermutation}
use Rattle.ldp_design.specs.declared.axis.AxisName.{AxisName}
use Rattle.ldp_design.specs.declared.design.Design.{Design}
use Rattle.ldp_design.specs.declared.design_box.DesignBox.{DesignBox}
use Rattle.ldp_design.specs.declared.family.Family.{Family}
use Rattle.ldp_design.specs.Families.{family_of}
use Rattle.ldp_design.specs.Designs.{IsAdmitted}
use Rattle.ldp_design.specs.Boxes.{LiesIn, IsIn, is_single}
use Rattle.ldp_design.specs.Splits.{cut_for, parts_at, split_of}
use Rattle.ldp_design.specs.Laws.{AreParts}
use Rattle.ldp_design.proofs.Cuts.{cuts_part}
use Rattle.ldp_design.proofs.Splits.{splits_cut}
use Rattle.ldp_design.specs.Forests.{node_count}
use Rattle.ldp_problem.specs.Problem.{Problem}
use Rattle.ldp_problem.specs.Pairs.{AtMost, is_smaller}
use Rattle.ldp_problem.specs.Costs.{IsUsable, cost, bound}
use Rattle.ldp_problem.proofs.Facts.{bound_below}
use Rattle.ldp_optimum.specs.Best.{Ranked, is_better, best, least}
use Rattle.ldp_optimum.specs.Forest.{is_above}
use Rattle.ldp_optimum.specs.Laws.{IsRanked, IsRankOf}
use Rattle.ldp_optimum.proofs.Bests.{best_ranked, ranked_usable, unbeaten_best, none_usable_no_best}
use Rattle.ldp_optimum.proofs.Forests.{all_trees}
use Rattle.ldp_search.specs.declared.bounded_box.BoundedBox.{BoundedBox}
use Rattle.ldp_search.specs.declared.candidate.Candidate.{Candidate}
use Rattle.ldp_search.specs.declared.state.State.{State}
use Rattle.ldp_search.specs.Candidates.{cost_shown, cost_held, ranked_of, IsCandidate}
use Rattle.ldp_search.specs.Explored.{nodes_of, nodes_on, Advances, Holds, IsSplittable, IsBeaten}
use Rattle.ldp_search.specs.Explored.{IsAccounted, IsExplored, IsWaiting, IsReady, IsDone, later}
use Rattle.ldp_search.specs.Explored.{waiting, held, beaten}
use Rattle.ldp_problem.proofs.Pairs.{at_most_trans}
use Rattle.ldp_search.proofs.Bounds.{or_true, at_most_itself, better_at_most}
use Rattle.ldp_search.proofs.Bounds.{below_better, below_at_most}
use Rattle.ldp_search.proofs.Counts.{nodes_split, nodes_closed}
use Rattle.ldp_search.proofs.Judged.{candidate_ranked, held_above}
use Rattle.ldp_search.proofs.Singles.{several_usable}
use Rattle.ldp_search.proofs.Lists.{Any-nil, Any-head, Any-tail, Any-cases, Any-permutation}

-- once all families are begun, a usable design is of a box that may be split, of which some more is
-- known, or it is beaten
data IsLeft (p : Problem) (s : State) (Known : BoundedBox → Type 0) (d : Design) : Type 0 where
  within : (o : BoundedBox) → IsSplittable p o → Known o → IsIn d o.region → IsLeft p s Known d
  worse : IsBeaten p s.best d → IsLeft p s Known d

number_within : (families : List Family) (number : ℕ) (f : Family)
    → family_of families number ≡ Some f
    → number ≤ length families
number_within families zero f e = omega arith
number_within families (suc index) f e = omega (arith, slice_get_within families index f e)

one_of : (p : Problem) (Known : BoundedBox → Type 0) (frontier : List BoundedBox) (d : Design)
    → All (IsSplittable p) frontier → All Known frontier → Any (Holds d) frontier
    → (o : BoundedBox) × IsSplittable p o × Known o × IsIn d o.region
one_of p Known [] d all known some = absurd (Any-nil (Holds d) some)
one_of p Known (o ∷ frontier) d all known some =
    elim (Any-cases (Holds d) o frontier some) [
      | inl h ↦ (o, All-head (IsSplittable p) o frontier all, All-head Known o frontier known, h)
      | inr h ↦ one_of p Known frontier d (All-tail (IsSplittable p) o frontier all)
          (All-tail Known o frontier known) h
    ]

left_of : (p : Problem) (s : State) (Known : BoundedBox → Type 0) (d : Design) → IsWaiting p s
    → All Known s.frontier → IsAdmitted p.families d → IsUsable p d → IsLeft p s Known d
left_of p s Known d x known a u = by_account (x.accounted d a u)
  where
    by_account : IsAccounted p (length p.families) [] s d → IsLeft p s Known d
    by_account (later h) =
        let most : d.family ≤ length p.families =
        number_within p.families d.family a.family a.found in
        absurd (omega arith)
    by_account (waiting h) = absurd (Any-nil (IsIn d) h)
    by_account (held h) =
        let one = one_of p Known s.frontier d x.frontier known h in within one.0 one.1 one.2 one.3
    by_account (beaten h) = worse h

-- a box of smallest bound that is not above the cost of the best so far is not above the least cost
not_above : (p : Problem) (s : State) (o : BoundedBox) → IsWaiting p s
    → All (λ other. AtMost o.low other.low) s.frontier → is_above o.low (cost_held s.best) ≡ false
    → is_above o.low (least p) ≡ false
not_above p s o x smallest below = by_best (best p) refl
  where
    at_least : (y : Ranked) → IsRanked p y → AtMost o.low y.cost
    at_least y r = by_left (left_of p s (λ other. AtMost o.low other.low) y.design x smallest
        r.admitted is.usable)
      where
        is : IsRankOf p y.design y
        is = ranked_usable p y.design y r.ranked

        by_beaten : (best : Option Candidate) → is_above o.low (cost_held best) ≡ false
            → IsBeaten p best y.design → AtMost o.low (cost p y.design)
        by_beaten None h k = absurd k
        by_beaten (Some c) h k =
            at_most_trans o.low (cost_shown c) (cost p y.design) h
            (better_at_most (ranked_of c) (record { design = y.design; cost = cost p y.design }) k)

        by_left : IsLeft p s (λ other. AtMost o.low other.low) y.design → AtMost o.low y.cost
        by_left (within other split at_most h) =
            subst (AtMost o.low) (sym is.cost)
            (at_most_trans o.low other.low (cost p y.design) at_most
            (subst (λ low. AtMost low (cost p y.design)) (sym split.low)
            (bound_below p other.region y.design x.sound split.lies h is.usable)))
        by_left (worse k) = subst (AtMost o.low) (sym is.cost) (by_beaten s.best below k)

    by_best : (b : Option Ranked) → best p ≡ b → is_above o.low (option_map (λ y. y.cost) (best p))
        ≡ false
    by_best None e = rw e refl
    by_best (Some y) e = rw e (at_least y (best_ranked p y e))

-- where a box is cut that is split
record IsParted (families : List Family) (b low high : DesignBox) : Type 0 where
  axis : AxisName
  at : ℕ
  cut : cut_for families b ≡ Some (axis, at)
  low_is : low ≡ (parts_at axis at b).0
  high_is : high ≡ (parts_at axis at b).1

parted : (families : List Family) (b low high : DesignBox) → split_of families b ≡ Some (low, high)
    → IsParted families b low high
parted families b low high e = by_cut (cut_for families b) refl e
  where
    by_cut : (o : Option (AxisName × ℕ)) → cut_for families b ≡ o
        → option_map (λ c. parts_at c.0 c.1 b) o ≡ Some (low, high) → IsParted families b low high
    by_cut None h k = absurd cc
    by_cut (Some (axis, at)) h k =
        let same : parts_at axis at b ≡ (low, high) = cc in
        record {
          axis = axis;
          at = at;
          cut = h;
          low_is = ap (λ x. x.0) (sym same);
          high_is = ap (λ x. x.1) (sym same);
        }

-- the parts of the box that is chosen are to be evaluated
explored_split : (p : Problem) (o : BoundedBox) (low high : DesignBox) (s t : State) → IsWaiting p s
    → IsPermutation s.frontier (o ∷ t.frontier) → t.best ≡ s.best → t.evaluated ≡ s.evaluated
    → AreParts p.families o.region low high
    → nodes_of p o.region ≡ 1 + nodes_of p low + nodes_of p high
    → IsExplored p (length p.families) (low ∷ high ∷ []) t
explored_split p o low high s t x moves same counted parts nodes = record {
  sound = x.sound;
  grids = x.grids;
  lies = All-cons (LiesIn p.families) low (high ∷ []) parts.low_lies
      (All-cons (LiesIn p.families) high [] parts.high_lies (All-nil (LiesIn p.families)));
  frontier = All-tail (IsSplittable p) o t.frontier
      (All-permutation (IsSplittable p) s.frontier (o ∷ t.frontier) moves x.frontier);
  best = λ c e. x.best c (sym same ∙ e);
  accounted = λ d a u. moved d (x.accounted d a u);
  count = omega (
    arith,
    x.count,
    sum_by_popped (λ y. nodes_of p y.region) o s.frontier t.frontier moves,
    length_permutation s.frontier (o ∷ t.frontier) moves,
    sum_by-cons (nodes_of p) low (high ∷ []),
    sum_by-cons (nodes_of p) high [],
  );
}
  where
    moved : (d : Design) → IsAccounted p (length p.families) [] s d
        → IsAccounted p (length p.families) (low ∷ high ∷ []) t d
    moved d (later h) = later h
    moved d (waiting h) = absurd (Any-nil (IsIn d) h)
    moved d (held h) =
        elim (Any-cases (Holds d) o t.frontier
        (Any-permutation (Holds d) s.frontier (o ∷ t.frontier) moves h)) [
          | inl inside ↦ elim (parts.covered d inside) [
            | inl first ↦ waiting (Any-head (IsIn d) low (high ∷ []) first)
            | inr second ↦ waiting
                (Any-tail (IsIn d) low (high ∷ []) (Any-head (IsIn d) high [] second))
          ]
          | inr other ↦ held other
        ]
    moved d (beaten h) = beaten (subst (λ best. IsBeaten p best d) (sym same) h)

pub chosen_ready : (p : Problem) (o : BoundedBox) (s t : State) → IsWaiting p s
    → IsPermutation s.frontier (o ∷ t.frontier) → All (λ other. AtMost o.low other.low) t.frontier
    → t.best ≡ s.best → t.evaluated ≡ s.evaluated → is_above o.low (cost_held s.best) ≡ false
    → IsReady p o.region t
chosen_ready p o s t x moves smallest same counted below =
    let split : IsSplittable p o = All-head (IsSplittable p) o t.frontier
    (All-permutation (IsSplittable p) s.frontier (o ∷ t.frontier) moves x.frontier) in
    let all : All (λ other. AtMost o.low other.low) s.frontier =
    All-permutation (λ other. AtMost o.low other.low) (o ∷ t.frontier) s.frontier
    (IsPermutation-sym s.frontier (o ∷ t.frontier) moves)
    (All-cons (λ other. AtMost o.low other.low) o t.frontier (at_most_itself o.low) smallest) in
    let low : is_above (bound p o.region) (least p) ≡ false =
    subst (λ y. is_above y (least p) ≡ false) split.low (not_above p s o x all below) in
    record {
      lies = split.lies;
      several = split.several;
      parts = λ first second e.
          let is = parted p.families o.region first second e in
          by_parts first second is.axis is.at split.lies low is.cut is.low_is is.high_is;
    }
  where
    by_parts : (first second : DesignBox) (axis : AxisName) (at : ℕ) → LiesIn p.families o.region
        → is_above (bound p o.region) (least p) ≡ false
        → cut_for p.families o.region ≡ Some (axis, at)
        → first ≡ (parts_at axis at o.region).0 → second ≡ (parts_at axis at o.region).1
        → IsExplored p (length p.families) (first ∷ second ∷ []) t
    by_parts first second axis at lies low cut first_is second_is =
        explored_split p o first second s t x moves same counted
        (rw (first_is, second_is) (cuts_part p.families o.region axis at lies
        (splits_cut p.families o.region axis at x.grids lies cut)))
        (rw (first_is, second_is) (nodes_split p o.region axis at x.grids lies low cut))

-- each box that may still be split is above the cost of the best so far
nodes_above : (p : Problem) (so_far : Option Candidate) (frontier : List BoundedBox)
    → ((c : Candidate) → so_far ≡ Some c → IsCandidate p c) → All (IsSplittable p) frontier
    → All (λ o. is_above o.low (cost_held so_far) ≡ true) frontier
    → nodes_on p frontier ≡ length frontier
nodes_above p so_far [] is all above = refl
nodes_above p so_far (o ∷ frontier) is all above =
    let split = All-head (IsSplittable p) o frontier all in
    let one : nodes_of p o.region ≡ 1 =
    node_of o split (held_above p so_far o.low is
    (All-head (λ y. is_above y.low (cost_held so_far) ≡ true) o frontier above)) in
    omega (
      arith,
      one,
      sum_by-cons (λ y. nodes_of p y.region) o frontier,
      nodes_above p so_far frontier is (All-tail (IsSplittable p) o frontier all)
          (All-tail (λ y. is_above y.low (cost_held so_far) ≡ true) o frontier above),
    )
  where
    node_of : (y : BoundedBox) → IsSplittable p y → is_above y.low (least p) ≡ true
        → nodes_of p y.region ≡ 1
    node_of y split h =
        let low : is_above (bound p y.region) (least p) ≡ true =
        subst (λ l. is_above l (least p) ≡ true) split.low h in
        nodes_closed p y.region (several_usable p y.region split.lies split.several)
        (rw low (or_true (is_single y.region)))

best_done : (p : Problem) (s : State) → IsWaiting p s
    → All (λ o. is_above o.low (cost_held s.best) ≡ true) s.frontier
    → best p ≡ option_map ranked_of s.best
best_done p s x above = by_held s.best refl
  where
    left : (d : Design) → IsAdmitted p.families d → IsUsable p d
        → IsLeft p s (λ o. is_above o.low (cost_held s.best) ≡ true) d
    left d a u = left_of p s (λ o. is_above o.low (cost_held s.best) ≡ true) d x above a u

    none_left : (d : Design) → s.best ≡ None → IsUsable p d
        → IsLeft p s (λ o. is_above o.low (cost_held s.best) ≡ true) d → ⊥
    none_left d e u (within o split h inside) =
        let contrary : false ≡ true = rw e at h in cc
    none_left d e u (worse h) = subst (λ best. IsBeaten p best d) e h

    unbeaten : (c : Candidate) (y : Ranked) → s.best ≡ Some c → IsRankOf p y.design y
        → IsLeft p s (λ o. is_above o.low (cost_held s.best) ≡ true) y.design
        → is_better y (ranked_of c) ≡ false
    unbeaten c y e is (within o split h inside) =
        let above_it : is_smaller (cost_shown c) o.low ≡ true = rw e at h in
        let at_most : AtMost o.low y.cost =
        subst (AtMost o.low) (sym is.cost)
        (subst (λ low. AtMost low (cost p y.design)) (sym split.low)
        (bound_below p o.region y.design x.sound split.lies inside is.usable)) in
        below_better (ranked_of c) y (below_at_most (cost_shown c) o.low y.cost above_it at_most)
    unbeaten c y e is (worse h) =
        let beaten_by : is_better (record { design = y.design; cost = cost p y.design })
        (ranked_of c) ≡ false =
        subst (λ best. IsBeaten p best y.design) e h in
        subst (λ k. is_better (record { design = y.design; cost = k }) (ranked_of c) ≡ false)
        (sym is.cost) beaten_by

    by_held : (held : Option Candidate) → s.best ≡ held → best p ≡ option_map ranked_of s.best
    by_held None e = rw e (none_usable_no_best p (λ d a u. none_left d e u (left d a u)))
    by_held (Some c) e =
        rw e (unbeaten_best p (ranked_of c) (candidate_ranked p c (x.best c e)) (λ y r.
        let is : IsRankOf p y.design y = ranked_usable p y.design y r.ranked in
        unbeaten c y e is (left y.design r.admitted is.usable)))

done : (p : Problem) (s t : State) → IsWaiting p s
    → All (λ o. is_above o.low (cost_held s.best) ≡ true) s.frontier
    → t.best ≡ s.best → t.evaluated ≡ s.evaluated → IsDone p t
done p s t x above same counted = record {
  grids = x.grids;
  best = best_done p s x above ∙ ap (option_map ranked_of) (sym same);
  candidate = λ c e. x.best c (sym same ∙ e);
  evaluated = omega (
    arith,
    x.count,
    nodes_above p s.best s.frontier x.best x.frontier above,
    ap node_count (all_trees p),
  );
}

-- no box is left that may be split
pub none_chosen : (p : Problem) (s t : State) → IsWaiting p s → s.frontier ≡ [] → t.best ≡ s.best
    → t.evaluated ≡ s.evaluated → IsDone p t
none_chosen p s t x empty same counted =
    done p s t x (subst (All (λ o. is_above o.low (cost_held s.best) ≡ true)) (sym empty)
    (All-nil (λ o. is_above o.low (cost_held s.best) ≡ true))) same counted

-- the box of smallest bound is above the cost of the best so far
pub above_chosen : (p : Problem) (o : BoundedBox) (s t : State) → IsWaiting p s
    → IsPermutation s.frontier (o ∷ t.frontier) → All (λ other. AtMost o.low other.low) t.frontier
    → t.best ≡ s.best → t.evaluated ≡ s.evaluated → is_above o.low (cost_held s.best) ≡ true
    → IsDone p t
above_chosen p o s t x moves smallest same counted above =
    done p s t x (All-permutation Above (o ∷ t.frontier) s.frontier
    (IsPermutation-sym s.frontier (o ∷ t.frontier) moves)
    (All-cons Above o t.frontier above
    (All-weaker (λ other. AtMost o.low other.low) Above (λ other h. more s.best other above h)
    t.frontier smallest)))
    same counted
  where
    Above : BoundedBox → Type 0
    Above other = is_above other.low (cost_held s.best) ≡ true

    more : (so_far : Option Candidate) (other : BoundedBox)
        → is_above o.low (cost_held so_far) ≡ true
        → AtMost o.low other.low → is_above other.low (cost_held so_far) ≡ true
    more None other h k = absurd cc
    more (Some c) other h k = below_at_most (cost_shown c) o.low other.low h k

-- the parts of a box that is ready are to be evaluated
pub parts_waiting : (p : Problem) (families : List Family) (b : DesignBox) (s : State)
    (split : Option (DesignBox × DesignBox)) (low high : DesignBox) → IsReady p b s
    → p.families ≡ families
    → split ≡ split_of families b → split ≡ Some (low, high)
    → IsExplored p (length p.families) (low ∷ high ∷ []) s
parts_waiting p families b s split low high ready same value some =
    ready.parts low high (ap (λ fs. split_of fs b) same ∙ sym value ∙ some)

-- where the first of them was evaluated
pub second_waiting : (p q : Problem) (low high : DesignBox) (s t : State) → q ≡ p
    → Advances p low s t → IsExplored p (length p.families) (low ∷ high ∷ []) s
    → IsExplored q (length q.families) (high ∷ []) t
second_waiting p q low high s t same advances x =
    subst (λ r. IsExplored r (length r.families) (high ∷ []) t) (sym same)
    (advances (length p.families) (high ∷ []) x)
