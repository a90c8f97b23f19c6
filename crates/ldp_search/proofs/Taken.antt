-- What a search keeps when it takes in the bound of a box.
use Rattle.std.proofs.Common.{◌≡◌, ◌+◌, ℕ, Bool, true, false, ◌∷◌, Option, None, Some, Result, refl}
use Rattle.std.proofs.Common.{sym, ap, subst, ◌∙◌}
use Rattle.std.proofs.lemmas.List.Elements.{All-head}
use Rattle.std.proofs.lemmas.Result.{on_ok_weaker}
use Rattle.std.specs.Prelude.{ℤ, unsigned_abs, OnOk, Ok, Err}
use Rattle.std.specs.List.Sorted.{IsPermutation}
use Rattle.ldp_design.specs.declared.design.Design.{Design}
use Rattle.ldp_design.specs.declared.design_box.DesignBox.{DesignBox}
use Rattle.ldp_design.specs.Boxes.{LiesIn, IsSingle, is_single, first_of}
use Rattle.ldp_design.proofs.Splits.{singles_are_tested}
use Rattle.ldp_design.proofs.Wholes.{singles_have_one}
use Rattle.ldp_problem.specs.declared.bound.Bound.TheVariants as bounds
use Rattle.ldp_problem.specs.Problem.{Problem}
use Rattle.ldp_problem.specs.Pairs.{AtMost}
use Rattle.ldp_problem.specs.Costs.{cost, bound, bound_of, unusable_at}
use Rattle.ldp_problem.proofs.Facts.{bound_below}
use Rattle.ldp_optimum.specs.Forest.{is_above}
use Rattle.ldp_search.specs.declared.candidate.Candidate.{Candidate}
use Rattle.ldp_search.specs.declared.state.State.{State}
use Rattle.ldp_search.specs.Candidates.{cost_shown, cost_held, better_of, ranked_of, IsCandidate}
use Rattle.ldp_search.specs.Explored.{IsBeaten, Advances}
use Rattle.ldp_search.proofs.Bounds.{or_true, below_at_most, below_better}
use Rattle.ldp_search.proofs.Counts.{nodes_unusable, nodes_closed}
use Rattle.ldp_search.proofs.Judged.{held_above, better_candidate, stays_beaten, new_beaten}
use Rattle.ldp_search.proofs.Moves.{explored_closed, explored_kept}
use Rattle.ldp_search.proofs.Singles.{IsLow, low_pair, low_said, unusable_said}
use Rattle.ldp_search.proofs.Singles.{none_usable, single_candidate}

on_ok : {T E P : Type 0} (r : Result T E) → P → OnOk r P
on_ok (Ok x) h = h
on_ok (Err e) h = tt

pub taken_unusable : (p : Problem) (b : DesignBox) (cell : ℕ) (s : State)
    → bounds.Unusable cell ≡ bound_of p b
    → Advances p b s record { frontier = s.frontier; best = s.best; evaluated = s.evaluated + 1 }
taken_unusable p b cell s e begun pending x =
    let lies = All-head (LiesIn p.families) b pending x.lies in
    let undefined : unusable_at p b ≡ Some cell = unusable_said p b cell e in
    explored_closed p begun b pending s _ x (nodes_unusable p b cell undefined) refl refl x.best
    (λ d h. h)
    (λ d h u. absurd (none_usable p b cell d lies undefined h u))

pub taken_single : (p : Problem) (b : DesignBox) (over : ℕ) (value : ℤ) (cell : ℕ) (s : State)
    → bounds.Low over value cell ≡ bound_of p b → is_single b ≡ true
    → Advances p b s record {
      frontier = s.frontier;
      best = Some (better_of s.best record
          { design = first_of b; over = over; worst = value; cell = cell });
      evaluated = s.evaluated + 1;
    }
taken_single p b over value cell s e single begun pending x =
    let lies = All-head (LiesIn p.families) b pending x.lies in
    let low : IsLow p b over value cell = low_said p b over value cell e in
    let c : Candidate = record { design = first_of b; over = over; worst = value; cell = cell } in
    let is : IsCandidate p c = single_candidate p b over value cell x.sound lies single low in
    explored_closed p begun b pending s _ x (nodes_closed p b low.usable (rw single refl)) refl refl
    (λ y h. subst (IsCandidate p) (inside_some (better_of s.best c) y h)
    (better_candidate p s.best c x.best is))
    (λ d h. stays_beaten p s.best c d h)
    (λ d h u. subst (IsBeaten p (Some (better_of s.best c)))
    (sym (singles_have_one b d ((singles_are_tested b).0 single) h).0)
    (new_beaten p s.best c is))
  where
    inside_some : (y z : Candidate) → Some y ≡ Some z → y ≡ z
    inside_some y z h = cc

-- a box whose bound is above the cost of the best so far
taken_closed : (p : Problem) (b : DesignBox) (over : ℕ) (value : ℤ) (cell : ℕ) (s : State)
    → bounds.Low over value cell ≡ bound_of p b
    → is_above (record { over = over; value = unsigned_abs value }) (cost_held s.best) ≡ true
    → Advances p b s record { frontier = s.frontier; best = s.best; evaluated = s.evaluated + 1 }
taken_closed p b over value cell s e above begun pending x =
    let lies = All-head (LiesIn p.families) b pending x.lies in
    let low : IsLow p b over value cell = low_said p b over value cell e in
    let exceeds : is_above (bound p b) (cost_held s.best) ≡ true =
    ap (λ l. is_above l (cost_held s.best)) (sym (low_pair p b over value cell low)) ∙ above in
    explored_closed p begun b pending s _ x
    (nodes_closed p b low.usable
    (rw (held_above p s.best (bound p b) x.best exceeds) (or_true (is_single b))))
    refl refl x.best (λ d h. h)
    (λ d h u. beaten_by s.best d exceeds (bound_below p b d x.sound lies h u))
  where
    beaten_by : (held : Option Candidate) (d : Design)
        → is_above (bound p b) (cost_held held) ≡ true
        → AtMost (bound p b) (cost p d) → IsBeaten p held d
    beaten_by None d h at_most = absurd cc
    beaten_by (Some c) d h at_most =
        below_better (ranked_of c) (record { design = d; cost = cost p d })
        (below_at_most (cost_shown c) (bound p b) (cost p d) h at_most)

-- a box of several designs
pub taken_several : {T E : Type 0} (r : Result T E) (b : DesignBox) (over : ℕ) (value : ℤ)
    (cell : ℕ)
    (s t : State) → (IsSingle b → ⊥)
    → (is_above (record { over = over; value = unsigned_abs value }) (cost_held s.best) ≡ true
    → t ≡ record { frontier = s.frontier; best = s.best; evaluated = s.evaluated + 1 })
    → (is_above (record { over = over; value = unsigned_abs value }) (cost_held s.best) ≡ false
    → OnOk r (IsPermutation
    (record { low = record { over = over; value = unsigned_abs value }; region = b }
    ∷ s.frontier) t.frontier))
    → t.best ≡ s.best → t.evaluated ≡ s.evaluated + 1
    → OnOk r ((p : Problem) → bounds.Low over value cell ≡ bound_of p b → Advances p b s t)
taken_several r b over value cell s t several closed splittable best evaluated =
    by_test (is_above (record { over = over; value = unsigned_abs value }) (cost_held s.best)) refl
  where
    by_test : (u : Bool) → is_above (record { over = over; value = unsigned_abs value })
        (cost_held s.best) ≡ u
        → OnOk r ((p : Problem) → bounds.Low over value cell ≡ bound_of p b → Advances p b s t)
    by_test true h =
        on_ok r (λ p e. subst (Advances p b s) (sym (closed h))
        (taken_closed p b over value cell s e h))
    by_test false h =
        on_ok_weaker r (λ moves p e begun pending x.
        let lies = All-head (LiesIn p.families) b pending x.lies in
        let low : IsLow p b over value cell = low_said p b over value cell e in
        explored_kept p begun
        (record { low = record { over = over; value = unsigned_abs value }; region = b })
        pending s t x
        (record { lies = lies; several = several; low = low_pair p b over value cell low })
        moves evaluated best) (splittable h)
