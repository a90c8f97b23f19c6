-- What is told of the values at the cells, cell by cell.
use Rattle.std.proofs.Common.{◌≡◌, ◌≤◌, ◌<◌, ◌+◌, ℕ, zero, suc, true, false, List, [], ◌∷◌, ◌++◌}
use Rattle.std.proofs.Common.{length, get_or, arith, refl, sym, ap, ◌∙◌, ◌⊎◌, inl, inr}
use Rattle.std.proofs.lemmas.Bool.{cases_lt}
use Rattle.std.proofs.lemmas.Bool.Decides.{nat_tests}
use Rattle.std.proofs.lemmas.List.{length-append, get_or_push, get_or_append_left}
use Rattle.std.proofs.lemmas.List.Sums.{position_or_len_is}
use Rattle.std.specs.Prelude.{Option, None, Some, nat_lt, pos, position, unwrap_or}
use Rattle.std.specs.Option.{is_none}
use Rattle.std.specs.List.{position_or_len}
use Rattle.ldp_problem.specs.Costs.{at_cells}
use Rattle.ldp_problem.specs.declared.cost.Cost.TheVariants as costs
use Rattle.ldp_bound.specs.declared.summary.Summary.{Summary}
use Rattle.ldp_bound.specs.Summary.{tally_of, counted, cost_over}
use Rattle.ldp_bound.proofs.Tallies.{with_lesser}

length-at_cells : {A : Type 0} (f : ℕ → A) (n : ℕ) → length (at_cells f n) ≡ n
length-at_cells f zero = refl
length-at_cells f (suc n) = length-append (at_cells f n) (f n ∷ [])
    ∙ omega (arith, length-at_cells f n)

one_more : {A : Type 0} (f : ℕ → A) (n : ℕ) → at_cells f (n + 1) ≡ at_cells f n ++ f n ∷ []
one_more f n = let next : n + 1 ≡ suc n = omega arith in rw next refl

cell_at : {A : Type 0} (f : ℕ → A) (n cell : ℕ) (d : A) → cell < n
    → get_or (at_cells f n) cell d ≡ f cell
cell_at f zero cell d h = absurd (omega arith)
cell_at f (suc n) cell d h = by_place (cases_lt cell n) (cell_at f n cell d)
  where
    by_place : (cell < n) ⊎ (n ≤ cell) → (cell < n → get_or (at_cells f n) cell d ≡ f cell)
        → get_or (at_cells f n ++ f n ∷ []) cell d ≡ f cell
    by_place (inl below) earlier =
        get_or_append_left (at_cells f n) (f n ∷ []) d cell (omega (arith, length-at_cells f n))
        ∙ earlier below
    by_place (inr above) earlier =
        let last : cell ≡ n = omega arith in
        get_or_push (at_cells f n) (f n) d cell (length-at_cells f n ∙ sym last) ∙ ap f (sym last)

-- the value at one more cell
pub told_more : (f : ℕ → ℕ) (tolerance : Option ℕ) (cell value : ℕ) (so_far next : Summary)
    → ((values : List ℕ) → length values ≡ cell → so_far ≡ tally_of tolerance values
    → next ≡ tally_of tolerance (values ++ value ∷ []))
    → so_far ≡ tally_of tolerance (at_cells f cell) → value ≡ f cell
    → next ≡ tally_of tolerance (at_cells f (cell + 1))
told_more f tolerance cell value so_far next step is here =
    step (at_cells f cell) (length-at_cells f cell) is
    ∙ ap (λ (v : ℕ). tally_of tolerance (at_cells f cell ++ v ∷ [])) here
    ∙ ap (tally_of tolerance) (sym (one_more f cell))

-- the values where some are undefined
abbrev pub told_sizes : (ℕ → Option ℕ) → ℕ → ℕ
told_sizes sizes cell = unwrap_or (sizes cell) 0

-- where all are 0
none_counted : (tolerance : Option ℕ) → counted tolerance 0 ≡ 0
none_counted None = refl
none_counted (Some t) = let test : nat_lt t 0 ≡ false = grind (arith, nat_tests) in rw test refl

pub all_zero : (f : ℕ → ℕ) (tolerance : Option ℕ) (none : Summary) (n : ℕ)
    → none ≡ tally_of tolerance [] → none.value ≡ 0
    → ((cell : ℕ) → f cell ≡ 0) → none ≡ tally_of tolerance (at_cells f n)
all_zero f tolerance none zero is value zeros = is
all_zero f tolerance none (suc n) is value zeros =
    with_lesser tolerance (at_cells f n) (f n) none.over none
    (let more : counted tolerance (f n) ≡ 0 =
    ap (counted tolerance) (zeros n) ∙ none_counted tolerance in omega (arith, more))
    (omega (arith, zeros n, value)) (all_zero f tolerance none n is value zeros)

-- the first undefined cell
pub unusable_at : (tolerance : Option ℕ) (sizes : ℕ → Option ℕ) (count cell : ℕ) → cell < count
    → ((k : ℕ) → k < cell → is_none (sizes k) ≡ false) → sizes cell ≡ None
    → costs.Unusable cell ≡ cost_over tolerance sizes count
unfolding cost_over
unusable_at tolerance sizes count cell within defined here =
    let all : length (at_cells sizes count) ≡ count = length-at_cells sizes count in
    let first : position_or_len is_none (at_cells sizes count) ≡ cell =
    position_or_len_is is_none (at_cells sizes count) cell None (omega arith)
    (λ k h. ap is_none (cell_at sizes count k None (omega (arith, h))) ∙ defined k h)
    (λ h. ap is_none (cell_at sizes count cell None within ∙ here)) in
    let found : position is_none (at_cells sizes count) ≡ Some cell =
    (let test : nat_lt cell (length (at_cells sizes count)) ≡ true = grind (arith, nat_tests) in
    rw (first, test) refl) in
    rw found refl

-- where each is defined, none is undefined
pub all_defined : (f : ℕ → ℕ) (count : ℕ) → position is_none (at_cells (λ k. Some (f k)) count)
    ≡ None
all_defined f count =
    let values : List (Option ℕ) = at_cells (λ k. Some (f k)) count in
    let all : length values ≡ count = length-at_cells (λ k. Some (f k)) count in
    let first : position_or_len is_none values ≡ count =
    position_or_len_is is_none values count None (omega arith)
    (λ k h. ap is_none (cell_at (λ k. Some (f k)) count k None h))
    (λ h. absurd (omega arith)) in
    let test : nat_lt count (length values) ≡ false = grind (arith, nat_tests) in
    rw (first, test) refl

-- none is undefined
pub usable_over : (tolerance : Option ℕ) (sizes : ℕ → Option ℕ) (count : ℕ) (told : Summary)
    → ((k : ℕ) → k < count → is_none (sizes k) ≡ false)
    → told ≡ tally_of tolerance (at_cells (told_sizes sizes) count)
    → costs.Is told.over (pos told.value) told.cell ≡ cost_over tolerance sizes count
unfolding cost_over tally_of
usable_over tolerance sizes count told defined is =
    let all : length (at_cells sizes count) ≡ count = length-at_cells sizes count in
    let first : position_or_len is_none (at_cells sizes count) ≡ count =
    position_or_len_is is_none (at_cells sizes count) count None (omega arith)
    (λ k h. ap is_none (cell_at sizes count k None h) ∙ defined k h)
    (λ h. absurd (omega arith)) in
    let none : position is_none (at_cells sizes count) ≡ None =
    (let test : nat_lt count (length (at_cells sizes count)) ≡ false = grind (arith, nat_tests) in
    rw (first, test) refl) in
    rw none (ap (λ (t : Summary). costs.Is t.over (pos t.value) t.cell) is)
