-- Boxes of one design.
use Rattle.std.specs.Prelude.{ℤ, pos, unsigned_abs}
use Rattle.std.proofs.Common.{◌≡◌, ℕ, Bool, true, false, Option, None, Some, refl, sym}
use Rattle.std.proofs.Common.{ap, ◌∙◌}
use Rattle.ldp_design.specs.declared.design.Design.{Design}
use Rattle.ldp_design.specs.declared.design_box.DesignBox.{DesignBox}
use Rattle.ldp_design.specs.Boxes.{LiesIn, IsIn, IsSingle, is_single, first_of}
use Rattle.ldp_design.proofs.Splits.{singles_are_tested}
use Rattle.ldp_design.proofs.Wholes.{firsts_are_admitted, singles_have_one}
use Rattle.ldp_problem.specs.Problem.{Problem, IsSound}
use Rattle.ldp_problem.specs.Costs.{IsUsable, bound, bound_cell, first_undefined, unusable_at}
use Rattle.ldp_problem.specs.Costs.{bound_answer, bound_of}
use Rattle.ldp_problem.specs.declared.bound.Bound.TheVariants as bounds
use Rattle.ldp_problem.proofs.Facts.{none_undefined, usable_has_none, single_exact}
use Rattle.ldp_search.specs.Candidates.{IsCandidate}

-- what is known of a box that is no unusable single
pub record IsLow (p : Problem) (b : DesignBox) (m : ℕ) (v : ℤ) (k : ℕ) : Type 0 where
  pub usable : unusable_at p b ≡ None
  pub over : m ≡ (bound p b).over
  pub value : v ≡ pos (bound p b).value
  pub cell : k ≡ bound_cell p b

pub low_pair : (p : Problem) (b : DesignBox) (over : ℕ) (value : ℤ) (cell : ℕ)
    → IsLow p b over value cell
    → record { over = over; value = unsigned_abs value } ≡ bound p b
low_pair p b over value cell low =
    ap (λ x. record { over = x; value = unsigned_abs value }) low.over
    ∙ ap (λ x. record { over = (bound p b).over; value = unsigned_abs x }) low.value

pub unusable_said : (p : Problem) (b : DesignBox) (cell : ℕ) → bounds.Unusable cell ≡ bound_of p b
    → unusable_at p b ≡ Some cell
unfolding bound_of
unusable_said p b cell e = by_cell (unusable_at p b) refl e
  where
    by_cell : (o : Option ℕ) → unusable_at p b ≡ o
        → bounds.Unusable cell ≡ bound_answer o (bound p b) (bound_cell p b)
        → unusable_at p b ≡ Some cell
    by_cell None h k = absurd cc
    by_cell (Some c) h k = let same : cell ≡ c = cc in h ∙ ap Some (sym same)

pub low_said : (p : Problem) (b : DesignBox) (over : ℕ) (value : ℤ) (cell : ℕ)
    → bounds.Low over value cell ≡ bound_of p b → IsLow p b over value cell
unfolding bound_of
low_said p b over value cell e = by_cell (unusable_at p b) refl e
  where
    by_cell : (o : Option ℕ) → unusable_at p b ≡ o
        → bounds.Low over value cell ≡ bound_answer o (bound p b) (bound_cell p b)
        → IsLow p b over value cell
    by_cell None h k = record { usable = h; over = cc; value = cc; cell = cc }
    by_cell (Some c) h k = absurd cc

-- a single that has an undefined cell has no usable design
pub none_usable : (p : Problem) (b : DesignBox) (cell : ℕ) (d : Design) → LiesIn p.families b
    → unusable_at p b ≡ Some cell → IsIn d b → IsUsable p d → ⊥
none_usable p b cell d lies e within usable = by_test (is_single b) refl
  where
    by_test : (t : Bool) → is_single b ≡ t → ⊥
    by_test true s =
        let same : d ≡ first_of b =
        (singles_have_one b d ((singles_are_tested b).0 s) within).0 in
        let none : first_undefined p d ≡ None = usable_has_none p d usable in
        let first : first_undefined p (first_of b) ≡ Some cell = rw s at e in
        let contrary : None ≡ Some cell = sym none ∙ ap (first_undefined p) same ∙ first in
        absurd cc
    by_test false s = let contrary : None ≡ Some cell = rw s at e in absurd cc

-- the design of a usable single
pub single_candidate : (p : Problem) (b : DesignBox) (over : ℕ) (value : ℤ) (cell : ℕ) → IsSound p
    → LiesIn p.families b → is_single b ≡ true → IsLow p b over value cell
    → IsCandidate p record { design = first_of b; over = over; worst = value; cell = cell }
single_candidate p b over value cell sound lies s low =
    let one : IsSingle b = (singles_are_tested b).0 s in
    let none : first_undefined p (first_of b) ≡ None = rw s at low.usable in
    let exact = single_exact p b sound lies one in
    record {
      admitted = firsts_are_admitted p.families b lies;
      usable = none_undefined p (first_of b) none;
      over = low.over ∙ ap (λ x. x.over) exact.0;
      worst = low.value ∙ ap (λ x. pos x.value) exact.0;
      cell = low.cell ∙ exact.1;
    }

-- a box of several designs is no unusable single
pub several_usable : (p : Problem) (b : DesignBox) → LiesIn p.families b → (IsSingle b → ⊥)
    → unusable_at p b ≡ None
several_usable p b lies several = by_test (is_single b) refl
  where
    by_test : (t : Bool) → is_single b ≡ t → unusable_at p b ≡ None
    by_test true e = absurd (several ((singles_are_tested b).0 e))
    by_test false e = rw e refl
