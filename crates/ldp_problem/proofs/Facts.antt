-- The laws of bounds and costs over any problem.
use Rattle.std.proofs.Common.{◌≡◌, ◌≤◌, ◌<◌, ℕ, Bool, true, false, length, arith}
use Rattle.std.proofs.Common.{rules, refl, sym, ap, ◌∙◌}
use Rattle.std.proofs.lemmas.Bool.Decides.{nat_tests}
use Rattle.std.proofs.lemmas.List.Quantifiers.{position-Some}
use Rattle.std.proofs.lemmas.List.Sums.{position_or_len_is, fails_before_first}
use Rattle.std.specs.Prelude.{Option, None, Some, IsSome, unwrap_or, nat_lt}
use Rattle.std.specs.Option.{is_none}
use Rattle.std.specs.List.{position_or_len}
use Rattle.ldp_design.specs.declared.design.Design.{Design}
use Rattle.ldp_design.specs.declared.design_box.DesignBox.{DesignBox}
use Rattle.ldp_design.specs.Boxes.{LiesIn, IsIn, IsSingle, first_of}
use Rattle.ldp_problem.specs.declared.pair.Pair.{Pair}
use Rattle.ldp_problem.specs.Problem.{Problem, IsSound}
use Rattle.ldp_problem.specs.Pairs.{AtMost}
use Rattle.ldp_problem.specs.Costs.{at_cells, IsUsable, first_undefined, sizes, lows, tally}
use Rattle.ldp_problem.specs.Costs.{first_largest, cost, bound, bound_cell}
use Rattle.ldp_problem.specs.Laws.{NoneUndefined, UsableHasNone, FirstUndefined, BoundBelow}
use Rattle.ldp_problem.specs.Laws.{LeafBelow, SingleExact, BoundAtCell, WorstAtCell, LowBelow}
use Rattle.ldp_problem.proofs.Cells.{length-at_cells, same_cells, at_most_largest, largest_below}
use Rattle.ldp_problem.proofs.Cells.{beyond_below, first_within, first_reaches, cell_at}

-- neither number is greater
pub at_most_both : (a b : Pair) → a.over ≤ b.over → a.value ≤ b.value → AtMost a b
at_most_both a b h k = grind (arith, nat_tests)

some_of : (o : Option ℕ) → is_none o ≡ false → IsSome o
some_of None h = cc
some_of (Some v) h = search rules

none_of : (o : Option ℕ) → is_none o ≡ true → o ≡ None
none_of None h = refl
none_of (Some v) h = cc

not_none : (o : Option ℕ) → IsSome o → is_none o ≡ false
not_none None h = absurd (search rules)
not_none (Some v) h = refl

value_of : (o : Option ℕ) → IsSome o → (v : ℕ) × (o ≡ Some v)
value_of None h = absurd (search rules)
value_of (Some v) h = (v, refl)

undefined_at : Problem → Design → ℕ
undefined_at p d = position_or_len is_none (at_cells (p.delta d) p.cells)

none_by : (p : Problem) (d : Design) (past : Bool)
    → nat_lt (position_or_len is_none (at_cells (p.delta d) p.cells))
    (length (at_cells (p.delta d) p.cells)) ≡ past
    → first_undefined p d ≡ None → p.cells ≤ position_or_len is_none (at_cells (p.delta d) p.cells)
none_by p d true e h = absurd (grind (arith, nat_tests, e, h))
none_by p d false e h = grind (arith, nat_tests, length-at_cells (p.delta d) p.cells)

pub none_undefined : NoneUndefined
none_undefined p d none cell within =
    some_of (p.delta d cell)
    (ap is_none (sym (cell_at (p.delta d) p.cells cell None within))
    ∙ fails_before_first is_none (at_cells (p.delta d) p.cells) cell None
    (omega (arith, none_by p d _ refl none)))

pub usable_has_none : UsableHasNone
usable_has_none p d usable =
    let all : position_or_len is_none (at_cells (p.delta d) p.cells) ≡ p.cells =
    position_or_len_is is_none (at_cells (p.delta d) p.cells) p.cells None
    (omega (arith, length-at_cells (p.delta d) p.cells))
    (λ cell h. ap is_none (cell_at (p.delta d) p.cells cell None h) ∙ not_none (p.delta d cell)
    (usable cell h))
    (λ h. absurd (omega (arith, length-at_cells (p.delta d) p.cells))) in
    let past : nat_lt (position_or_len is_none (at_cells (p.delta d) p.cells))
    (length (at_cells (p.delta d) p.cells)) ≡ false =
    grind (arith, nat_tests, length-at_cells (p.delta d) p.cells) in
    rw past refl

pub first_undefined_is : FirstUndefined
first_undefined_is p d cell e =
    let found = position-Some is_none (at_cells (p.delta d) p.cells) cell None e in
    let within : cell < p.cells = omega (arith, found.0, length-at_cells (p.delta d) p.cells) in (
      within,
      none_of (p.delta d cell)
          (ap is_none (sym (cell_at (p.delta d) p.cells cell None within)) ∙ found.1),
    )

-- at each cell a box is at most a usable design of it
low_at : (p : Problem) (b : DesignBox) (d : Design) (cell : ℕ) → IsSound p → LiesIn p.families b
    → IsIn d b → IsUsable p d
    → cell < p.cells → p.lower b cell ≤ unwrap_or (p.delta d cell) 0
low_at p b d cell sound lies in_box usable within =
    let defined = value_of (p.delta d cell) (usable cell within) in
    let below : p.lower b cell ≤ defined.0 =
    sound.below b d cell defined.0 lies in_box within defined.1 in
    rw defined.1 below

pub bound_below : BoundBelow
bound_below p b d sound lies in_box usable =
    at_most_both (bound p b) (cost p d)
    (beyond_below p.tolerance (p.lower b) (λ cell. unwrap_or (p.delta d cell) 0) p.cells
    (λ cell h. low_at p b d cell sound lies in_box usable h))
    (largest_below (p.lower b) (λ cell. unwrap_or (p.delta d cell) 0) p.cells
    (λ cell h. low_at p b d cell sound lies in_box usable h))

pub leaf_below : LeafBelow
leaf_below p b d cell sound lies in_box usable within =
    let low : p.lower b cell ≤ unwrap_or (p.delta d cell) 0 =
    low_at p b d cell sound lies in_box usable within in
    let most : unwrap_or (p.delta d cell) 0 ≤ (cost p d).value =
    at_most_largest (λ cell. unwrap_or (p.delta d cell) 0) p.cells cell within in
    at_most_both _ (cost p d)
    (beyond_below p.tolerance (p.lower b) (λ cell. unwrap_or (p.delta d cell) 0) p.cells
    (λ cell h. low_at p b d cell sound lies in_box usable h))
    (omega (arith, low, most))

single_values : (p : Problem) (b : DesignBox) → IsSound p → LiesIn p.families b → IsSingle b
    → lows p b ≡ sizes p (first_of b)
single_values p b sound lies single =
    same_cells (p.lower b) (λ cell. unwrap_or (p.delta (first_of b) cell) 0) p.cells
    (λ cell h. sound.single b cell lies single h)

pub single_exact : SingleExact
single_exact p b sound lies single = (
  ap (tally p.tolerance) (single_values p b sound lies single),
  ap first_largest (single_values p b sound lies single),
)

pub bound_at_cell : BoundAtCell
bound_at_cell p b some =
    let count : length (lows p b) ≡ p.cells = length-at_cells (p.lower b) p.cells in
    let filled : 0 < length (lows p b) = omega arith in
    let within : bound_cell p b < p.cells = omega (arith, first_within (lows p b) filled) in (
      within,
      sym (cell_at (p.lower b) p.cells (bound_cell p b) 0 within) ∙ first_reaches (lows p b)
          filled,
    )

pub worst_at_cell : WorstAtCell
worst_at_cell p d some =
    let count : length (sizes p d) ≡ p.cells =
    length-at_cells (λ cell. unwrap_or (p.delta d cell) 0) p.cells in
    omega (arith, first_within (sizes p d) (omega arith))

pub low_below : LowBelow
low_below p b cell within = at_most_largest (p.lower b) p.cells cell within
