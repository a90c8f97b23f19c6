-- Values at cells: how many are above a tolerance, their greatest, and the first cell that has it.
use Rattle.std.proofs.Common.{◌≡◌, ◌≤◌, ◌<◌, ◌+◌, ◌-◌, ℕ, zero, suc, true, false}
use Rattle.std.proofs.Common.{[], ◌∷◌}
use Rattle.std.proofs.Common.{length, get_or, arith, refl, sym, ap, ◌∙◌, ◌⊎◌, inl, inr}
use Rattle.std.proofs.lemmas.Bool.{cases_lt}
use Rattle.std.proofs.lemmas.Bool.Decides.{nat_tests}
use Rattle.std.proofs.lemmas.List.Sums.{position_or_len_is}
use Rattle.std.specs.Prelude.{Option, None, Some, nat_lt, ◌==◌}
use Rattle.std.specs.List.{position_or_len}
use Rattle.ldp_problem.specs.Costs.{at_cells, largest, first_largest, beyond}
use Rattle.ldp_problem.proofs.Cells.{length-at_cells, cell_at, largest_push, at_most_largest}
use Rattle.ldp_problem.proofs.Cells.{beyond_grows, beyond_of_one}
use Rattle.ldp_sweep.specs.declared.peak.Peak.{Peak}
use Rattle.ldp_sweep.specs.Peaks.{IsAtMost}

-- how many of so many are above the tolerance
abbrev pub count : (ℕ → ℕ) → Option ℕ → ℕ → ℕ
count f tolerance n = beyond tolerance (at_cells f n)

abbrev pub NoneHigher : (ℕ → ℕ) → ℕ → Peak → Type 0
NoneHigher f n peak =
    (cell : ℕ) → cell < n → IsAtMost (record { value = f cell; cell = cell }) peak

-- one more cell
pub over_more : (f : ℕ → ℕ) (tolerance : Option ℕ) (n : ℕ)
    → count f tolerance (suc n) ≡ count f tolerance n + beyond tolerance (f n ∷ [])
over_more f tolerance n = beyond_grows tolerance (at_cells f n) (f n)

pub over_zero : (f : ℕ → ℕ) (tolerance : Option ℕ) → count f tolerance 0 ≡ 0
over_zero f None = refl
over_zero f (Some tolerance) = refl

pub one_below : (tolerance value : ℕ) → value ≤ tolerance
    → beyond (Some tolerance) (value ∷ []) ≡ 0
one_below tolerance value h =
    let test : nat_lt tolerance value ≡ false = grind (arith, nat_tests) in
    beyond_of_one tolerance value ∙ rw test refl

pub one_above : (tolerance value : ℕ) → tolerance < value
    → beyond (Some tolerance) (value ∷ []) ≡ 1
one_above tolerance value h =
    let test : nat_lt tolerance value ≡ true = grind (arith, nat_tests) in
    beyond_of_one tolerance value ∙ rw test refl

pub at_most_one : (tolerance : Option ℕ) (value : ℕ) → beyond tolerance (value ∷ []) ≤ 1
at_most_one None value = omega arith
at_most_one (Some tolerance) value = by_size (cases_lt tolerance value)
  where
    by_size : (tolerance < value) ⊎ (value ≤ tolerance)
        → beyond (Some tolerance) (value ∷ []) ≤ 1
    by_size (inl more) = omega (arith, one_above tolerance value more)
    by_size (inr less) = omega (arith, one_below tolerance value less)

pub over_at_most : (f : ℕ → ℕ) (tolerance : Option ℕ) (n : ℕ) → count f tolerance n ≤ n
over_at_most f tolerance zero = omega (arith, over_zero f tolerance)
over_at_most f tolerance (suc n) =
    omega (
      arith,
      over_more f tolerance n,
      at_most_one tolerance (f n),
      over_at_most f tolerance n,
    )

-- none of the cells from one to another is above the tolerance
pub over_none : (f : ℕ → ℕ) (tolerance : Option ℕ) (from to : ℕ) → from ≤ to
    → ((cell : ℕ) → from ≤ cell → cell < to → beyond tolerance (f cell ∷ []) ≡ 0)
    → count f tolerance to ≡ count f tolerance from
over_none f tolerance from zero h none =
    let same : from ≡ zero = omega arith in ap (count f tolerance) (sym same)
over_none f tolerance from (suc to) h none =
    by_place (cases_lt from (suc to)) (λ (k : from ≤ to). over_none f tolerance from to k
    (λ cell a b. none cell a (omega arith)))
  where
    by_place : (from < suc to) ⊎ (suc to ≤ from)
        → (from ≤ to → count f tolerance to ≡ count f tolerance from)
        → count f tolerance (suc to) ≡ count f tolerance from
    by_place (inl before) earlier =
        omega (
          arith,
          over_more f tolerance to,
          none to (omega arith) (omega arith),
          earlier (omega arith),
        )
    by_place (inr after) earlier =
        let same : from ≡ suc to = omega arith in ap (count f tolerance) (sym same)

-- all of them are
pub over_all : (f : ℕ → ℕ) (tolerance : Option ℕ) (from to : ℕ) → from ≤ to
    → ((cell : ℕ) → from ≤ cell → cell < to → beyond tolerance (f cell ∷ []) ≡ 1)
    → count f tolerance to ≡ count f tolerance from + (to - from)
over_all f tolerance from zero h all =
    let same : from ≡ zero = omega arith in
    ap (count f tolerance) (sym same) ∙ omega arith
over_all f tolerance from (suc to) h all =
    by_place (cases_lt from (suc to)) (λ (k : from ≤ to). over_all f tolerance from to k
    (λ cell a b. all cell a (omega arith)))
  where
    by_place : (from < suc to) ⊎ (suc to ≤ from)
        → (from ≤ to → count f tolerance to ≡ count f tolerance from + (to - from))
        → count f tolerance (suc to) ≡ count f tolerance from + (suc to - from)
    by_place (inl before) earlier =
        omega (
          arith,
          over_more f tolerance to,
          all to (omega arith) (omega arith),
          earlier (omega arith),
        )
    by_place (inr after) earlier =
        let same : from ≡ suc to = omega arith in
        ap (count f tolerance) (sym same) ∙ omega arith

largest_at_most : (f : ℕ → ℕ) (n most : ℕ) → ((cell : ℕ) → cell < n → f cell ≤ most)
    → largest (at_cells f n) ≤ most
largest_at_most f zero most below = omega arith
largest_at_most f (suc n) most below =
    omega (
      arith,
      largest_push (at_cells f n) (f n),
      below n (omega arith),
      largest_at_most f n most (λ cell h. below cell (omega arith)),
    )

lower_before : (value most cell first : ℕ) → value ≤ most → (value ≡ most → first ≤ cell)
    → cell < first → value < most
lower_before value most cell first h earlier before = by_size (cases_lt value most)
  where
    by_size : (value < most) ⊎ (most ≤ value) → value < most
    by_size (inl less) = less
    by_size (inr more) = absurd (omega (arith, earlier (omega arith)))

first_is : (f : ℕ → ℕ) (n : ℕ) (peak : Peak) → peak.cell < n → f peak.cell ≡ peak.value
    → NoneHigher f n peak
    → position_or_len (λ v. v == peak.value) (at_cells f n) ≡ peak.cell
first_is f n peak within at_cell most =
    position_or_len_is (λ v. v == peak.value) (at_cells f n) peak.cell 0
    (omega (arith, length-at_cells f n)) earlier here
  where
    earlier : (cell : ℕ) → cell < peak.cell
        → (get_or (at_cells f n) cell 0 == peak.value) ≡ false
    earlier cell h =
        let below : cell < n = omega arith in
        let known = most cell below in
        let value : get_or (at_cells f n) cell 0 ≡ f cell = cell_at f n cell 0 below in
        let less : f cell < peak.value =
        lower_before (f cell) peak.value cell peak.cell known.value known.cell h in
        grind (arith, nat_tests)

    here : peak.cell < length (at_cells f n)
        → (get_or (at_cells f n) peak.cell 0 == peak.value) ≡ true
    here h =
        let value : get_or (at_cells f n) peak.cell 0 ≡ f peak.cell =
        cell_at f n peak.cell 0 within in
        grind (arith, nat_tests)

-- a peak at its cell than which no cell is higher is the peak of the cells
pub is_peak : (f : ℕ → ℕ) (n : ℕ) (peak : Peak) → peak.cell < n → f peak.cell ≡ peak.value
    → NoneHigher f n peak
    → ◌≡◌ {A = Peak} peak (record {
      value = largest (at_cells f n);
      cell = first_largest (at_cells f n);
    })
is_peak f n peak within at_cell most =
    let top : peak.value ≡ largest (at_cells f n) =
    omega (
      arith,
      at_most_largest f n peak.cell within,
      largest_at_most f n peak.value (λ cell h. (most cell h).value),
    ) in
    let first : peak.cell ≡ first_largest (at_cells f n) =
    sym (first_is f n peak within at_cell most)
    ∙ ap (λ m. position_or_len (λ v. v == m) (at_cells f n)) top in
    same_peak peak.value _ peak.cell _ top first
  where
    same_peak : (value most cell first : ℕ) → value ≡ most → cell ≡ first
        → ◌≡◌ {A = Peak} (record { value = value; cell = cell })
        (record { value = most; cell = first })
    same_peak value most cell first h k = cc
