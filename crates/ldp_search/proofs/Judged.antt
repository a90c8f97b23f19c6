-- Candidates against the best of all.
use Rattle.std.proofs.Common.{◌≡◌, Bool, true, false, Option, None, Some, refl, sym, ap, subst, ◌∙◌}
use Rattle.std.specs.Prelude.{option_map, unsigned_abs}
use Rattle.ldp_design.specs.declared.design.Design.{Design}
use Rattle.ldp_problem.specs.declared.pair.Pair.{Pair}
use Rattle.ldp_problem.specs.Problem.{Problem}
use Rattle.ldp_problem.specs.Pairs.{AtMost, is_smaller}
use Rattle.ldp_problem.specs.Costs.{cost}
use Rattle.ldp_optimum.specs.Best.{Ranked, is_better, best, least}
use Rattle.ldp_optimum.specs.Forest.{is_above}
use Rattle.ldp_optimum.specs.Laws.{IsRanked}
use Rattle.ldp_optimum.proofs.Bests.{usable_ranked, best_least, no_best_none_usable}
use Rattle.ldp_search.specs.declared.candidate.Candidate.{Candidate}
use Rattle.ldp_search.specs.Candidates.{cost_shown, cost_held, ranked_of, better_of, IsCandidate}
use Rattle.ldp_search.specs.Explored.{IsBeaten}
use Rattle.ldp_optimum.proofs.Order.{better_weak, not_better_itself}
use Rattle.ldp_search.proofs.Bounds.{at_most_below}

-- a candidate shows the cost of its design
pub cost_is : (p : Problem) (c : Candidate) → IsCandidate p c → cost_shown c ≡ cost p c.design
cost_is p c is =
    ap (λ over. record { over = over; value = unsigned_abs c.worst }) is.over
    ∙ ap (λ worst. record { over = (cost p c.design).over; value = unsigned_abs worst }) is.worst

pub candidate_ranked : (p : Problem) (c : Candidate) → IsCandidate p c → IsRanked p (ranked_of c)
candidate_ranked p c is = record {
  admitted = is.admitted;
  ranked = usable_ranked p c.design is.usable
      ∙ ap (λ x. Some record { design = c.design; cost = x }) (sym (cost_is p c is));
}

-- a bound above the cost of a candidate is above the least cost
candidate_above : (p : Problem) (c : Candidate) (low : Pair) → IsCandidate p c
    → is_smaller (cost_shown c) low ≡ true → is_above low (least p) ≡ true
candidate_above p c low is h = by_best (best p) refl
  where
    by_best : (o : Option Ranked) → best p ≡ o → is_above low (option_map (λ x. x.cost) (best p))
        ≡ true
    by_best None e = absurd (no_best_none_usable p c.design e is.admitted is.usable)
    by_best (Some x) e =
        let most : AtMost x.cost (cost_shown c) =
        subst (AtMost x.cost) (sym (cost_is p c is))
        (best_least p x c.design e is.admitted is.usable) in
        ap (λ o. is_above low (option_map (λ y. y.cost) o)) e
        ∙ at_most_below x.cost (cost_shown c) low most h

pub held_above : (p : Problem) (held : Option Candidate) (low : Pair)
    → ((c : Candidate) → held ≡ Some c → IsCandidate p c)
    → is_above low (cost_held held) ≡ true → is_above low (least p) ≡ true
held_above p None low is h = absurd cc
held_above p (Some c) low is h = candidate_above p c low (is c refl) h

-- the better of two is one of them, and neither is better than it
pub better_candidate : (p : Problem) (held : Option Candidate) (c : Candidate)
    → ((x : Candidate) → held ≡ Some x → IsCandidate p x) → IsCandidate p c
    → IsCandidate p (better_of held c)
better_candidate p None c is new = new
better_candidate p (Some x) c is new = by_test (is_better (ranked_of c) (ranked_of x)) refl
  where
    by_test : (t : Bool) → is_better (ranked_of c) (ranked_of x) ≡ t
        → IsCandidate p (better_of (Some x) c)
    by_test true e = rw e new
    by_test false e = rw e (is x refl)

pub stays_beaten : (p : Problem) (held : Option Candidate) (c : Candidate) (d : Design)
    → IsBeaten p held d → IsBeaten p (Some (better_of held c)) d
stays_beaten p None c d h = absurd h
stays_beaten p (Some x) c d h = by_test (is_better (ranked_of c) (ranked_of x)) refl
  where
    by_test : (t : Bool) → is_better (ranked_of c) (ranked_of x) ≡ t
        → IsBeaten p (Some (better_of (Some x) c)) d
    by_test true e =
        rw e (better_weak.chain _ (ranked_of x) (ranked_of c) h
        (better_weak.one_way (ranked_of c) (ranked_of x) e))
    by_test false e = rw e h

pub new_beaten : (p : Problem) (held : Option Candidate) (c : Candidate) → IsCandidate p c
    → IsBeaten p (Some (better_of held c)) c.design
new_beaten p held c is = at_cost (cost p c.design) (cost_is p c is)
  where
    by_held : (o : Option Candidate) → is_better (ranked_of c) (ranked_of (better_of o c)) ≡ false
    by_held None = not_better_itself (ranked_of c)
    by_held (Some x) = by_test (is_better (ranked_of c) (ranked_of x)) refl
      where
        by_test : (t : Bool) → is_better (ranked_of c) (ranked_of x) ≡ t
            → is_better (ranked_of c) (ranked_of (better_of (Some x) c)) ≡ false
        by_test true e = rw e (not_better_itself (ranked_of c))
        by_test false e = rw e e

    at_cost : (k : Pair) → cost_shown c ≡ k
        → is_better (record { design = c.design; cost = k }) (ranked_of (better_of held c)) ≡ false
    at_cost k e =
        subst (λ y. is_better (record { design = c.design; cost = y })
        (ranked_of (better_of held c)) ≡ false) e (by_held held)
