-- The first cell where the value is undefined.
use Rattle.std.proofs.Common.{◌≡◌, ◌<◌, ℕ, true, false, length}
use Rattle.std.proofs.Common.{arith, rules, refl, ap, ◌∙◌}
use Rattle.std.proofs.lemmas.Bool.Decides.{nat_tests}
use Rattle.std.proofs.lemmas.List.Sums.{position_or_len_is}
use Rattle.std.specs.Prelude.{Option, None, Some, IsSome, nat_lt}
use Rattle.std.specs.Option.{is_none}
use Rattle.std.specs.List.{position_or_len}
use Rattle.ldp_problem.specs.Costs.{at_cells}
use Rattle.ldp_sweep.specs.Cut.{Cut}
use Rattle.ldp_sweep.specs.Tally.{undefined_of}
use Rattle.ldp_sweep.specs.Peaks.{IsFirstUndefined}
use Rattle.ldp_problem.proofs.Cells.{length-at_cells, cell_at}

not_none : (o : Option ℕ) → IsSome o → is_none o ≡ false
not_none None h = absurd (search rules)
not_none (Some v) h = refl

-- each value is defined
pub none_undefined : (value : ℕ → Option ℕ) (cells : ℕ)
    → ((cell : ℕ) → cell < cells → IsSome (value cell)) → undefined_of value cells ≡ None
none_undefined value cells defined =
    let all : position_or_len is_none (at_cells value cells) ≡ cells =
    position_or_len_is is_none (at_cells value cells) cells None
    (omega (arith, length-at_cells value cells))
    (λ cell h. ap is_none (cell_at value cells cell None h)
    ∙ not_none (value cell) (defined cell h))
    (λ h. absurd (omega (arith, length-at_cells value cells))) in
    let past : nat_lt (position_or_len is_none (at_cells value cells))
    (length (at_cells value cells))
    ≡ false =
    grind (arith, nat_tests, length-at_cells value cells) in
    rw past refl

-- or this is the first that is not
pub first_undefined : (cut : Cut) (cell : ℕ) → IsFirstUndefined cut cell
    → undefined_of cut.value cut.cells ≡ Some cell
first_undefined cut cell first =
    let place : position_or_len is_none (at_cells cut.value cut.cells) ≡ cell =
    position_or_len_is is_none (at_cells cut.value cut.cells) cell None
    (omega (arith, first.within, length-at_cells cut.value cut.cells))
    (λ k h. ap is_none (cell_at cut.value cut.cells k None (omega (arith, first.within)))
    ∙ not_none (cut.value k) (first.before k h))
    (λ h. ap is_none (cell_at cut.value cut.cells cell None first.within ∙ first.here)) in
    let past : nat_lt (position_or_len is_none (at_cells cut.value cut.cells))
    (length (at_cells cut.value cut.cells)) ≡ true =
    grind (arith, nat_tests, length-at_cells cut.value cut.cells, first.within) in
    rw past (ap Some place)
