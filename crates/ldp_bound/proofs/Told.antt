-- What the calls answer, by what is told of the values at the cells.
use Rattle.std.proofs.Common.{◌≡◌, ℕ, Bool, true, false, refl, sym, ap, ◌∙◌}
use Rattle.std.specs.Prelude.{Option, None, Some, pos, if◌then◌else◌}
use Rattle.ldp_design.specs.declared.design.Design.{Design}
use Rattle.ldp_design.specs.declared.design_box.DesignBox.{DesignBox}
use Rattle.ldp_design.specs.Boxes.{LiesIn, IsSingle, is_single, first_of}
use Rattle.ldp_problem.specs.declared.pair.Pair.{Pair}
use Rattle.ldp_problem.specs.declared.bound.Bound.TheVariants as bounds
use Rattle.ldp_problem.specs.Problem.{Problem, IsSound}
use Rattle.ldp_problem.specs.Costs.{at_cells, first_undefined, cost, worst_cell, bound, bound_cell}
use Rattle.ldp_problem.specs.Costs.{cost_answer, bound_answer, cost_of, bound_of}
use Rattle.ldp_problem.proofs.Facts.{single_exact}
use Rattle.ldp_bound.specs.declared.summary.Summary.{Summary}
use Rattle.ldp_bound.specs.Summary.{tally_of, cost_over, single_bound}

pub cost_told : (p : Problem) (d : Design) → cost_over p.tolerance (p.delta d) p.cells ≡ cost_of p d
unfolding cost_over cost_of
cost_told p d = refl

-- the bound of a single is the cost of its design
as_bound : (undefined : Option ℕ) (pair : Pair) (cell : ℕ)
    → single_bound (cost_answer undefined pair cell) ≡ bound_answer undefined pair cell
as_bound None pair cell = refl
as_bound (Some undefined) pair cell = refl

pub single_told : (p : Problem) (b : DesignBox) → IsSound p → LiesIn p.families b
    → is_single b ≡ true → IsSingle b
    → single_bound (cost_of p (first_of b)) ≡ bound_of p b
unfolding cost_of bound_of
single_told p b sound lies test single =
    let exact = single_exact p b sound lies single in
    as_bound (first_undefined p (first_of b)) (cost p (first_of b)) (worst_cell p (first_of b))
    ∙ ap (λ (pair : Pair). bound_answer (first_undefined p (first_of b)) pair
    (worst_cell p (first_of b))) (sym exact.0)
    ∙ ap (bound_answer (first_undefined p (first_of b)) (bound p b)) (sym exact.1)
    ∙ ap (λ (t : Bool). bound_answer (if t then first_undefined p (first_of b) else None)
    (bound p b) (bound_cell p b)) (sym test)

-- the bound of any other box
pub low_told : (p : Problem) (b : DesignBox) (told : Summary) → is_single b ≡ false
    → told ≡ tally_of p.tolerance (at_cells (p.lower b) p.cells)
    → bounds.Low told.over (pos told.value) told.cell ≡ bound_of p b
unfolding bound_of tally_of
low_told p b told test is =
    ap (λ (t : Summary). bounds.Low t.over (pos t.value) t.cell) is
    ∙ ap (λ (t : Bool). bound_answer (if t then first_undefined p (first_of b) else None)
    (bound p b) (bound_cell p b)) (sym test)
