-- What is known of the first cells when more of them are looked at or passed over.
use Rattle.std.proofs.Common.{◌≡◌, ◌≤◌, ◌<◌, ◌+◌, ℕ, suc, [], ◌∷◌}
use Rattle.std.proofs.Common.{arith, rules, sym, ap, subst, ◌∙◌, ◌⊎◌, inl, inr}
use Rattle.std.proofs.lemmas.Bool.{cases_lt}
use Rattle.std.specs.Prelude.{Option, None, Some, IsSome, unwrap_or}
use Rattle.ldp_problem.specs.Costs.{beyond}
use Rattle.ldp_sweep.specs.declared.stretch.Stretch.{Stretch}
use Rattle.ldp_sweep.specs.declared.peak.Peak.{Peak}
use Rattle.ldp_sweep.specs.declared.enclosure.Enclosure.{Enclosure}
use Rattle.ldp_sweep.specs.declared.tally.Tally.{Tally}
use Rattle.ldp_sweep.specs.Cut.{Cut, IsWithin}
use Rattle.ldp_sweep.specs.Tally.{number_at, over_of, peak_of}
use Rattle.ldp_sweep.specs.Peaks.{IsAtMost, IsAtCell, IsTally, IsPassed}
use Rattle.ldp_sweep.proofs.Values.{over_more, over_zero, over_none, over_all, one_below, one_above}
use Rattle.ldp_sweep.proofs.Values.{is_peak}

-- the order of peaks
at_most_both : (a b c : Peak) → IsAtMost a b → IsAtMost b c → IsAtMost a c
at_most_both a b c h k =
    record {
      value = omega (arith, h.value, k.value);
      cell = λ e. omega (arith, h.value, k.value, h.cell, k.cell);
    }

-- one of two peaks has its value at its cell where both have
pub at_cell_of : (cut : Cut) (left right peak : Peak) → IsAtCell cut left → IsAtCell cut right
    → (peak ≡ left) ⊎ (peak ≡ right) → IsAtCell cut peak
at_cell_of cut left right peak h k (inl is) = subst (IsAtCell cut) (sym is) h
at_cell_of cut left right peak h k (inr is) = subst (IsAtCell cut) (sym is) k

-- the number at the cell of a peak
number_of : (cut : Cut) (peak : Peak) → IsAtCell cut peak
    → number_at cut.value peak.cell ≡ peak.value
number_of cut peak at_cell = ap (λ (v : Option ℕ). unwrap_or v 0) at_cell.value

is_some : (o : Option ℕ) (v : ℕ) → o ≡ Some v → IsSome o
is_some None v h = cc
is_some (Some u) v h = search rules

-- before any cell
pub tally_none : (cut : Cut) (tolerance : Option ℕ) (cells : ℕ) (tally : Tally) → cells ≡ 0
    → tally.over ≡ 0 → IsAtCell cut tally.peak → IsTally cut tolerance cells tally
tally_none cut tolerance cells tally none over at_cell =
    record {
      defined = λ cell k. absurd (omega arith);
      over = over ∙ sym (over_zero (number_at cut.value) tolerance)
          ∙ ap (over_of cut.value tolerance) (sym none);
      at_cell = at_cell;
      most = λ cell h k. absurd (omega arith);
    }

-- after one more cell
pub tally_more : (cut : Cut) (tolerance : Option ℕ) (cell : ℕ) (old new : Tally) (peak : Peak)
    → IsTally cut tolerance cell old → IsAtCell cut peak → peak.cell ≡ cell
    → new.over ≡ old.over + beyond tolerance (peak.value ∷ [])
    → (new.peak ≡ old.peak) ⊎ (new.peak ≡ peak)
    → IsAtMost old.peak new.peak → IsAtMost peak new.peak
    → IsTally cut tolerance (cell + 1) new
tally_more cut tolerance cell old new peak known at_cell place counts one left right =
    subst (λ n. IsTally cut tolerance n new) next
    (record {
      defined = λ k h. defined k (cases_lt k cell) h;
      over = over;
      at_cell = at_cell_of cut old.peak peak new.peak known.at_cell at_cell one;
      most = λ k low high. most k low (cases_lt k cell) high;
    })
  where
    next : suc cell ≡ cell + 1
    next = omega arith

    value : number_at cut.value cell ≡ peak.value
    value = ap (number_at cut.value) (sym place) ∙ number_of cut peak at_cell

    over : new.over ≡ over_of cut.value tolerance (suc cell)
    over =
        counts ∙ ap (λ n. n + beyond tolerance (peak.value ∷ [])) known.over
        ∙ ap (λ v. over_of cut.value tolerance cell + beyond tolerance (v ∷ [])) (sym value)
        ∙ sym (over_more (number_at cut.value) tolerance cell)

    defined : (k : ℕ) → (k < cell) ⊎ (cell ≤ k) → k < suc cell → IsSome (cut.value k)
    defined k (inl before) high = known.defined k before
    defined k (inr after) high =
        let same : k ≡ peak.cell = omega arith in
        is_some (cut.value k) peak.value (ap cut.value same ∙ at_cell.value)

    most : (k : ℕ) → 0 ≤ k → (k < cell) ⊎ (cell ≤ k) → k < suc cell
        → IsAtMost (record { value = number_at cut.value k; cell = k }) new.peak
    most k low (inl before) high = at_most_both _ old.peak new.peak (known.most k low before) left
    most k low (inr after) high =
        let same : k ≡ cell = omega arith in
        let number : number_at cut.value k ≡ peak.value = ap (number_at cut.value) same ∙ value in
        record {
          value = omega (arith, right.value, number);
          cell = λ e. omega (arith, right.cell, number, place);
        }

-- after a node that is passed over
pub tally_passed : (cut : Cut) (tolerance : Option ℕ) (node : Stretch) (old new : Tally) (more : ℕ)
    → IsTally cut tolerance node.from old
    → IsPassed cut.value tolerance node old.peak more
    → new.over ≡ old.over + more → new.peak ≡ old.peak
    → IsTally cut tolerance node.to new
tally_passed cut tolerance node old new more known passed counts same =
    record {
      defined = λ cell high. defined cell (cases_lt cell node.from) high;
      over = counts ∙ ap (λ n. n + more) known.over ∙ sym passed.over;
      at_cell = subst (IsAtCell cut) (sym same) known.at_cell;
      most = λ cell low high.
          subst (λ (peak : Peak). IsAtMost
          (record { value = number_at cut.value cell; cell = cell }) peak) (sym same)
          (most cell (cases_lt cell node.from) high);
    }
  where
    defined : (cell : ℕ) → (cell < node.from) ⊎ (node.from ≤ cell) → cell < node.to
        → IsSome (cut.value cell)
    defined cell (inl before) high = known.defined cell before
    defined cell (inr after) high = passed.defined cell after high

    most : (cell : ℕ) → (cell < node.from) ⊎ (node.from ≤ cell) → cell < node.to
        → IsAtMost (record { value = number_at cut.value cell; cell = cell }) old.peak
    most cell (inl before) high = known.most cell (omega arith) before
    most cell (inr after) high = passed.most cell after high

-- after all cells
pub tally_peak : (cut : Cut) (tolerance : Option ℕ) (cells : ℕ) (tally : Tally)
    → IsTally cut tolerance cells tally → cells ≡ cut.cells
    → tally.peak ≡ peak_of cut.value cut.cells
tally_peak cut tolerance cells tally known all =
    is_peak (number_at cut.value) cut.cells tally.peak known.at_cell.cell
    (number_of cut tally.peak known.at_cell)
    (λ cell h. known.most cell (omega arith) (omega arith))

-- a span shows that none of its cells is above the tolerance, or that all are
pub none_above : (value : ℕ → Option ℕ) (tolerance from to : ℕ) (span : Enclosure)
    → IsWithin value from to span → from ≤ to → span.high ≤ tolerance
    → over_of value (Some tolerance) to ≡ over_of value (Some tolerance) from + 0
none_above value tolerance from to span within ordered below =
    over_none (number_at value) (Some tolerance) from to ordered
    (λ cell low high. one_below tolerance (number_at value cell)
    (omega (arith, within.high cell low high)))
    ∙ omega arith

pub all_above : (value : ℕ → Option ℕ) (tolerance from to cells : ℕ) (span : Enclosure)
    → IsWithin value from to span → from + cells ≡ to → tolerance < span.low
    → over_of value (Some tolerance) to ≡ over_of value (Some tolerance) from + cells
all_above value tolerance from to cells span within ordered above =
    over_all (number_at value) (Some tolerance) from to (omega arith)
    (λ cell low high. one_above tolerance (number_at value cell)
    (omega (arith, within.low cell low high)))
    ∙ omega arith
