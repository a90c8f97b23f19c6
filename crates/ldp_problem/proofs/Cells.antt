-- Values at numbered cells: their largest, the first cell that has it, and how many are beyond a
-- tolerance.
use Rattle.std.proofs.Common.{◌≡◌, ◌≤◌, ◌<◌, ℕ, zero, suc, max, true, false, cond, List}
use Rattle.std.proofs.Common.{[], ◌∷◌, ◌++◌, length, get_or, arith, refl, sym, ap, ◌∙◌, ◌⊎◌}
use Rattle.std.proofs.Common.{inl, inr}
use Rattle.std.proofs.lemmas.Bool.{cases_lt}
use Rattle.std.proofs.lemmas.Bool.Decides.{nat_tests}
use Rattle.std.proofs.lemmas.List.{length-append, get_or_push, get_or_append_left}
use Rattle.std.proofs.lemmas.List.Sums.{sum_by-append, sum_by-cons, fails_before_first}
use Rattle.std.proofs.lemmas.List.Sums.{passes_at_first}
use Rattle.std.specs.Prelude.{Option, None, Some, nat_lt, ◌==◌, count_by}
use Rattle.ldp_problem.specs.Costs.{at_cells, largest, first_largest, beyond}
use Rattle.ldp_problem.specs.Laws.{BeyondGrows, BeyondOfOne}

pub length-at_cells : {A : Type 0} (f : ℕ → A) (n : ℕ) → length (at_cells f n) ≡ n
length-at_cells f zero = refl
length-at_cells f (suc n) =
    length-append (at_cells f n) (f n ∷ []) ∙ omega (arith, length-at_cells f n)

pub same_cells : {A : Type 0} (f g : ℕ → A) (n : ℕ) → ((cell : ℕ) → cell < n → f cell ≡ g cell)
    → at_cells f n ≡ at_cells g n
same_cells f g zero same = refl
same_cells f g (suc n) same =
    rw (same_cells f g n (λ cell h. same cell (omega arith)), same n (omega arith)) refl

pub largest_push : (xs : List ℕ) (x : ℕ) → largest (xs ++ x ∷ []) ≡ max (largest xs) x
largest_push [] x = omega arith
largest_push (y ∷ xs) x = rw (largest_push xs x) (omega arith)

-- the value at a cell is at most the largest
pub at_most_largest : (f : ℕ → ℕ) (n cell : ℕ) → cell < n → f cell ≤ largest (at_cells f n)
at_most_largest f zero cell h = absurd (omega arith)
at_most_largest f (suc n) cell h =
    rw (largest_push (at_cells f n) (f n)) (by_place (cases_lt cell n) (at_most_largest f n cell))
  where
    by_place : (cell < n) ⊎ (n ≤ cell) → (cell < n → f cell ≤ largest (at_cells f n))
        → f cell ≤ max (largest (at_cells f n)) (f n)
    by_place (inl below) earlier = omega (arith, earlier below)
    by_place (inr above) earlier = let last : cell ≡ n = omega arith in rw last (omega arith)

pub largest_below : (f g : ℕ → ℕ) (n : ℕ) → ((cell : ℕ) → cell < n → f cell ≤ g cell)
    → largest (at_cells f n) ≤ largest (at_cells g n)
largest_below f g zero below = omega arith
largest_below f g (suc n) below =
    rw (largest_push (at_cells f n) (f n), largest_push (at_cells g n) (g n))
    (omega (arith, largest_below f g n (λ cell h. below cell (omega arith)), below n (omega arith)))

pub beyond_grows : BeyondGrows
beyond_grows None values value = refl
beyond_grows (Some tolerance) values value =
    sum_by-append (λ v. cond (nat_lt tolerance v) 1 0) values (value ∷ [])

pub beyond_of_one : BeyondOfOne
beyond_of_one tolerance value =
    sum_by-cons (λ v. cond (nat_lt tolerance v) 1 0) value [] ∙ omega arith

one_below : (tolerance m n : ℕ) → m ≤ n
    → beyond (Some tolerance) (m ∷ []) ≤ beyond (Some tolerance) (n ∷ [])
one_below tolerance m n h =
    rw (beyond_of_one tolerance m, beyond_of_one tolerance n) (grind (arith, nat_tests))

count_below : (tolerance : ℕ) (f g : ℕ → ℕ) (n : ℕ) → ((cell : ℕ) → cell < n → f cell ≤ g cell)
    → count_by (nat_lt tolerance) (at_cells f n) ≤ count_by (nat_lt tolerance) (at_cells g n)
count_below tolerance f g zero below = omega arith
count_below tolerance f g (suc n) below =
    omega (
      arith,
      beyond_grows (Some tolerance) (at_cells f n) (f n),
      beyond_grows (Some tolerance) (at_cells g n) (g n),
      count_below tolerance f g n (λ cell h. below cell (omega arith)),
      one_below tolerance (f n) (g n) (below n (omega arith)),
    )

pub beyond_below : (tolerance : Option ℕ) (f g : ℕ → ℕ) (n : ℕ)
    → ((cell : ℕ) → cell < n → f cell ≤ g cell)
    → beyond tolerance (at_cells f n) ≤ beyond tolerance (at_cells g n)
beyond_below None f g n below = omega arith
beyond_below (Some tolerance) f g n below = count_below tolerance f g n below

-- some place has the largest
record Reached (xs : List ℕ) : Type 0 where
  place : ℕ
  within : place < length xs
  reached : get_or xs place 0 ≡ largest xs

reached_by : (x : ℕ) (xs : List ℕ) → (length xs ≡ 0) ⊎ Reached xs → Reached (x ∷ xs)
reached_by x [] (inl none) = record { place = 0; within = omega arith; reached = omega arith }
reached_by x (y ∷ xs) (inl none) = absurd (omega arith)
reached_by x xs (inr later) = by_size (cases_lt x (largest xs))
  where
    by_size : (x < largest xs) ⊎ (largest xs ≤ x) → Reached (x ∷ xs)
    by_size (inl less) = record {
      place = suc later.place;
      within = omega (arith, later.within);
      reached = later.reached ∙ omega arith;
    }
    by_size (inr more) = record { place = 0; within = omega arith; reached = omega arith }

reached_in : (x : ℕ) (xs : List ℕ) → Reached (x ∷ xs)
reached_in x [] = reached_by x [] (inl refl)
reached_in x (y ∷ xs) = reached_by x (y ∷ xs) (inr (reached_in y xs))

some_reached : (xs : List ℕ) → 0 < length xs → Reached xs
some_reached [] h = absurd (omega arith)
some_reached (x ∷ xs) h = reached_in x xs

pub first_within : (xs : List ℕ) → 0 < length xs → first_largest xs < length xs
first_within xs h = by_place (some_reached xs h) (cases_lt (first_largest xs) (length xs))
  where
    by_place : Reached xs → (first_largest xs < length xs) ⊎ (length xs ≤ first_largest xs)
        → first_largest xs < length xs
    by_place some (inl below) = below
    by_place some (inr past) =
        let fails : (get_or xs some.place 0 == largest xs) ≡ false =
        fails_before_first (λ value. value == largest xs) xs some.place 0
        (omega (arith, some.within)) in
        absurd (grind (arith, nat_tests, some.reached))

pub first_reaches : (xs : List ℕ) → 0 < length xs → get_or xs (first_largest xs) 0 ≡ largest xs
first_reaches xs h =
    let passes : (get_or xs (first_largest xs) 0 == largest xs) ≡ true =
    passes_at_first (λ value. value == largest xs) xs 0 (first_within xs h) in
    grind (arith, nat_tests)

-- the value at a cell stands at its place
pub cell_at : {A : Type 0} (f : ℕ → A) (n cell : ℕ) (d : A) → cell < n
    → get_or (at_cells f n) cell d ≡ f cell
cell_at f zero cell d h = absurd (omega arith)
cell_at f (suc n) cell d h = by_place (cases_lt cell n) (cell_at f n cell d)
  where
    by_place : (cell < n) ⊎ (n ≤ cell) → (cell < n → get_or (at_cells f n) cell d ≡ f cell)
        → get_or (at_cells f n ++ f n ∷ []) cell d ≡ f cell
    by_place (inl below) earlier =
        get_or_append_left (at_cells f n) (f n ∷ []) d cell (omega (arith, length-at_cells f n))
        ∙ earlier below
    by_place (inr above) earlier =
        let last : cell ≡ n = omega arith in
        get_or_push (at_cells f n) (f n) d cell (length-at_cells f n ∙ sym last) ∙ ap f (sym last)
