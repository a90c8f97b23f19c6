-- The crossings beyond a column, in a list of crossings in order.
use Rattle.std.proofs.Common.{◌≡◌, ℕ, suc, ◌+◌, ◌-◌, ◌%◌, ◌<◌, ◌≤◌, ◌==◌, Bool, true, false, cond}
use Rattle.std.proofs.Common.{◌||◌}
use Rattle.std.proofs.Common.{nat_lt, List, [], ◌∷◌, length, take, drop, slice_index_or}
use Rattle.std.proofs.Common.{slice_index}
use Rattle.std.proofs.Common.{arith, refl, ◌∙◌}
use Rattle.std.proofs.lemmas.Bool.{lt-ltb, le-ltb}
use Rattle.std.proofs.Common.{◌≢◌, slice_set, below_more, get_or-set_other, get_or-set_same}
use Rattle.std.proofs.lemmas.List.{length-drop, get_or-drop, get_or-take, length-take-le}
use Rattle.std.proofs.lemmas.List.Sums.{sum_by-cons, sum_by-take-drop}
use Rattle.ldp_cells.specs.Rows.{crossings_beyond}

none_beyond : (column : ℕ) (crossings : List ℕ)
    → ((k : ℕ) → k < length crossings → slice_index crossings k ≤ column)
    → crossings_beyond column crossings ≡ 0
none_beyond column [] few = refl
none_beyond column (crossing ∷ crossings) few =
    let rest = none_beyond column crossings (λ k h. few (suc k) (omega arith)) in
    let f : ℕ → ℕ = λ k. cond (nat_lt column k) 1 0 in
    let here = le-ltb column crossing (few 0 (omega arith)) in
    let one : f crossing ≡ 0 = rw here refl in
    omega (arith, sum_by-cons f crossing crossings, one, rest)

all_beyond : (column : ℕ) (crossings : List ℕ)
    → ((k : ℕ) → k < length crossings → column < slice_index crossings k)
    → crossings_beyond column crossings ≡ length crossings
all_beyond column [] far = refl
all_beyond column (crossing ∷ crossings) far =
    let rest = all_beyond column crossings (λ k h. far (suc k) (omega arith)) in
    let f : ℕ → ℕ = λ k. cond (nat_lt column k) 1 0 in
    let here = lt-ltb column crossing (far 0 (omega arith)) in
    let one : f crossing ≡ 1 = rw here refl in
    omega (arith, sum_by-cons f crossing crossings, one, rest)

pub beyond_passed : (column passed : ℕ) (crossings : List ℕ)
    → ((i j : ℕ) (d : ℕ) → i ≤ j → j < length crossings
    → slice_index_or crossings i d ≤ slice_index_or crossings j d)
    → passed ≤ length crossings
    → ((k : ℕ) → k < passed → slice_index crossings k ≤ column)
    → (passed < length crossings → column < slice_index crossings passed)
    → crossings_beyond column crossings ≡ length crossings - passed
beyond_passed column passed crossings sorted few before behind =
    let f : ℕ → ℕ = λ k. cond (nat_lt column k) 1 0 in
    let front = take passed crossings in
    let back = drop passed crossings in
    let none = none_beyond column front (λ k h.
    let short = length-take-le passed crossings few in
    let at : k < passed = omega arith in
    rw (get_or-take passed crossings k 0 at) (before k at)) in
    let all = all_beyond column back (λ k h.
    let long = length-drop passed crossings in
    let here : passed + k < length crossings = omega arith in
    rw (get_or-drop passed crossings k 0)
    (omega (arith, behind (omega arith), sorted passed (passed + k) 0 (omega arith) here))) in
    omega (arith, sum_by-take-drop f crossings passed, none, all, length-drop passed crossings)

or_true : (b : Bool) → true ≡ (b || true)
or_true true = refl
or_true false = refl

or_false : (b : Bool) → b ≡ (b || false)
or_false true = refl
or_false false = refl

-- the marks of the columns before one, and those from it on
pub record AreSwept (crossings : List ℕ) (old : List Bool) (column : ℕ) (marks : List Bool)
    : Type 0 where
  pub done : (k : ℕ) → k < column
      → slice_index_or marks k false
      ≡ (slice_index_or old k false || (crossings_beyond k crossings % 2 == 1))
  pub rest : (k : ℕ) → column ≤ k → slice_index_or marks k false ≡ slice_index_or old k false

-- one column more: it is marked where the number of crossings beyond it is odd
pub swept_more : (crossings : List ℕ) (old marks : List Bool) (column beyond : ℕ)
    → column < length marks
    → crossings_beyond column crossings ≡ beyond
    → AreSwept crossings old column marks
    → beyond % 2 ≡ 1
    → AreSwept crossings old (column + 1) (slice_set marks column true)
swept_more crossings old marks column beyond within count swept odd = record {
  done = below_more _ _
      (λ k h.
      let other : k ≢ column = omega arith in
      rw (get_or-set_other marks column k true false other) (swept.done k h))
      (rw (get_or-set_same marks column true false within, count, odd)
      (or_true (slice_index_or old column false)));
  rest = λ k h.
      let other : k ≢ column = omega arith in
      rw (get_or-set_other marks column k true false other) (swept.rest k (omega arith));
}

pub swept_same : (crossings : List ℕ) (old marks : List Bool) (column beyond : ℕ)
    → crossings_beyond column crossings ≡ beyond
    → AreSwept crossings old column marks
    → beyond % 2 ≢ 1
    → AreSwept crossings old (column + 1) marks
swept_same crossings old marks column beyond count swept even = record {
  done = below_more _ _ swept.done
      (let zero : beyond % 2 ≡ 0 = omega (arith, even) in
      rw (count, zero)
      (swept.rest column (omega arith) ∙ or_false (slice_index_or old column false)));
  rest = λ k h. swept.rest k (omega arith);
}
