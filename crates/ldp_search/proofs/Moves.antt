-- What each step of a search keeps.
use Rattle.std.proofs.Common.{◌≡◌, ◌<◌, ◌+◌, ℕ, zero, suc, List, [], ◌∷◌, inl, inr, None, Some}
use Rattle.std.proofs.Common.{refl, sym, ap, subst, ◌∙◌, arith}
use Rattle.std.proofs.lemmas.List.Elements.{All-nil, All-cons, All-tail}
use Rattle.std.proofs.lemmas.List.Sorted.{All-permutation, length_permutation, sum_by_pushed}
use Rattle.std.proofs.lemmas.List.Sums.{sum_by-cons}
use Rattle.std.proofs.lemmas.Bool.{cases_eq}
use Rattle.std.specs.Prelude.{All, Any}
use Rattle.std.specs.List.Sorted.{IsPermutation}
use Rattle.ldp_design.specs.declared.design.Design.{Design}
use Rattle.ldp_design.specs.declared.design_box.DesignBox.{DesignBox}
use Rattle.ldp_design.specs.declared.family.Family.{Family}
use Rattle.ldp_design.specs.Families.{AreGrids, family_of}
use Rattle.ldp_design.specs.Designs.{IsAdmitted}
use Rattle.ldp_design.specs.Boxes.{LiesIn, IsIn, whole_of}
use Rattle.ldp_design.specs.Laws.{IsWhole}
use Rattle.ldp_design.proofs.Wholes.{wholes_hold}
use Rattle.ldp_problem.specs.Problem.{Problem, IsSound}
use Rattle.ldp_problem.specs.Costs.{IsUsable}
use Rattle.ldp_optimum.proofs.Forests.{next_tree_counts}
use Rattle.ldp_search.specs.declared.bounded_box.BoundedBox.{BoundedBox}
use Rattle.ldp_search.specs.declared.candidate.Candidate.{Candidate}
use Rattle.ldp_search.specs.declared.state.State.{State}
use Rattle.ldp_search.specs.Candidates.{IsCandidate}
use Rattle.ldp_search.specs.Explored.{nodes_of, IsSplittable, IsBeaten, Holds, IsAccounted}
use Rattle.ldp_search.specs.Explored.{IsExplored, later, waiting, held, beaten}
use Rattle.ldp_search.proofs.Lists.{Any-head, Any-tail, Any-cases, Any-permutation}

-- before the first family
pub explored_none : (p : Problem) → IsSound p → AreGrids p.families
    → IsExplored p 0 [] record { frontier = []; best = None; evaluated = 0 }
explored_none p sound grids = record {
  sound = sound;
  grids = grids;
  lies = All-nil (LiesIn p.families);
  frontier = All-nil (IsSplittable p);
  best = λ c e. absurd cc;
  accounted = λ d a u. later (numbered d a);
  count = refl;
}
  where
    numbered : (d : Design) → IsAdmitted p.families d → 0 < d.family
    numbered d a = by_number d.family a.found
      where
        by_number : (n : ℕ) → family_of p.families n ≡ Some a.family → 0 < n
        by_number zero e = absurd cc
        by_number (suc n) e = omega arith

-- the whole of the next family is to be evaluated
pub explored_begun : (p : Problem) (begun : ℕ) (whole : DesignBox) (s : State)
    → whole_of p.families (suc begun) ≡ Some whole → IsExplored p begun [] s
    → IsExplored p (suc begun) (whole ∷ []) s
explored_begun p begun whole s e x =
    let is : IsWhole p.families (suc begun) whole =
    wholes_hold p.families (suc begun) whole x.grids e in
    record {
      sound = x.sound;
      grids = x.grids;
      lies = All-cons (LiesIn p.families) whole [] is.lies (All-nil (LiesIn p.families));
      frontier = x.frontier;
      best = x.best;
      accounted = λ d a u. moved d a is (x.accounted d a u);
      count = omega (
        arith,
        x.count,
        next_tree_counts p begun whole e,
        sum_by-cons (nodes_of p) whole [],
      );
    }
  where
    moved : (d : Design) → IsAdmitted p.families d → IsWhole p.families (suc begun) whole
        → IsAccounted p begun [] s d → IsAccounted p (suc begun) (whole ∷ []) s d
    moved d a is (later h) =
        elim (cases_eq d.family (suc begun)) [
          | inl same ↦ waiting (Any-head (IsIn d) whole [] (is.holds d a same))
          | inr other ↦ later (omega arith)
        ]
    moved d a is (waiting w) = waiting (Any-tail (IsIn d) whole [] w)
    moved d a is (held h) = held h
    moved d a is (beaten h) = beaten h

-- a box that has one node was evaluated, and each usable design of it is beaten
pub explored_closed : (p : Problem) (begun : ℕ) (b : DesignBox) (pending : List DesignBox)
    (s t : State)
    → IsExplored p begun (b ∷ pending) s → nodes_of p b ≡ 1 → t.frontier ≡ s.frontier
    → t.evaluated ≡ s.evaluated + 1 → ((c : Candidate) → t.best ≡ Some c → IsCandidate p c)
    → ((d : Design) → IsBeaten p s.best d → IsBeaten p t.best d)
    → ((d : Design) → IsIn d b → IsUsable p d → IsBeaten p t.best d)
    → IsExplored p begun pending t
explored_closed p begun b pending s t x one same counted best kept inside = record {
  sound = x.sound;
  grids = x.grids;
  lies = All-tail (LiesIn p.families) b pending x.lies;
  frontier = subst (All (IsSplittable p)) (sym same) x.frontier;
  best = best;
  accounted = λ d a u. moved d u (x.accounted d a u);
  count = rw same (omega (arith, x.count, sum_by-cons (nodes_of p) b pending));
}
  where
    moved : (d : Design) → IsUsable p d → IsAccounted p begun (b ∷ pending) s d
        → IsAccounted p begun pending t d
    moved d u (later h) = later h
    moved d u (waiting w) =
        elim (Any-cases (IsIn d) b pending w) [ inl h ↦ beaten (inside d h u) | inr h ↦ waiting h ]
    moved d u (held h) = held (subst (Any (Holds d)) (sym same) h)
    moved d u (beaten h) = beaten (kept d h)

-- a box was evaluated that may be split
pub explored_kept : (p : Problem) (begun : ℕ) (o : BoundedBox) (pending : List DesignBox)
    (s t : State)
    → IsExplored p begun (o.region ∷ pending) s → IsSplittable p o
    → IsPermutation (o ∷ s.frontier) t.frontier → t.evaluated ≡ s.evaluated + 1 → t.best ≡ s.best
    → IsExplored p begun pending t
explored_kept p begun o pending s t x is moves counted same = record {
  sound = x.sound;
  grids = x.grids;
  lies = All-tail (LiesIn p.families) o.region pending x.lies;
  frontier = All-permutation (IsSplittable p) (o ∷ s.frontier) t.frontier moves
      (All-cons (IsSplittable p) o s.frontier is x.frontier);
  best = λ c e. x.best c (sym same ∙ e);
  accounted = λ d a u. moved d (x.accounted d a u);
  count = omega (
    arith,
    x.count,
    sum_by-cons (nodes_of p) o.region pending,
    sum_by_pushed (λ y. nodes_of p y.region) o s.frontier t.frontier moves,
    length_permutation (o ∷ s.frontier) t.frontier moves,
  );
}
  where
    moved : (d : Design) → IsAccounted p begun (o.region ∷ pending) s d
        → IsAccounted p begun pending t d
    moved d (later h) = later h
    moved d (waiting w) =
        elim (Any-cases (IsIn d) o.region pending w) [
          | inl h ↦ held (Any-permutation (Holds d) (o ∷ s.frontier) t.frontier moves
              (Any-head (Holds d) o s.frontier h))
          | inr h ↦ waiting h
        ]
    moved d (held h) =
        held (Any-permutation (Holds d) (o ∷ s.frontier) t.frontier moves
        (Any-tail (Holds d) o s.frontier h))
    moved d (beaten h) = beaten (subst (λ best. IsBeaten p best d) (sym same) h)

-- the same, over the families that the problem has
pub whole_waiting : (p : Problem) (families : List Family) (begun : ℕ) (whole : DesignBox)
    (s : State)
    → p.families ≡ families → whole_of families (begun + 1) ≡ Some whole → IsExplored p begun [] s
    → IsExplored p (begun + 1) (whole ∷ []) s
whole_waiting p families begun whole s same e x =
    subst (λ n. IsExplored p n (whole ∷ []) s) next
    (explored_begun p begun whole s
    (ap (λ fs. whole_of fs (suc begun)) same ∙ ap (whole_of families) next ∙ e) x)
  where
    next : suc begun ≡ begun + 1
    next = omega arith
