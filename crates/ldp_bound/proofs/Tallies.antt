-- What is told of values when one more is looked at.
use Rattle.std.proofs.Common.{◌≡◌, ◌≤◌, ◌<◌, ◌+◌, ℕ, max, Bool, true, false, cond, List, [], ◌∷◌}
use Rattle.std.proofs.Common.{◌++◌, length, eqb, ◌≢◌, arith, refl, sym, ap, ◌∙◌}
use Rattle.std.proofs.lemmas.Bool.Decides.{nat_tests}
use Rattle.std.proofs.lemmas.List.Sums.{sum_by-append, sum_by-cons}
use Rattle.std.proofs.lemmas.List.Folds.{position_or_len_push}
use Rattle.std.specs.Prelude.{Option, None, Some, nat_lt, ◌==◌, count_by}
use Rattle.std.specs.List.{position_or_len}
use Rattle.ldp_problem.specs.Costs.{largest, first_largest, beyond}
use Rattle.ldp_bound.specs.declared.summary.Summary.{Summary}
use Rattle.ldp_bound.specs.Summary.{tally_of, counted}

largest_push : (xs : List ℕ) (x : ℕ) → largest (xs ++ x ∷ []) ≡ max (largest xs) x
largest_push [] x = omega arith
largest_push (y ∷ xs) x = rw (largest_push xs x) (omega arith)

beyond_push : (tolerance : Option ℕ) (xs : List ℕ) (x : ℕ)
    → beyond tolerance (xs ++ x ∷ []) ≡ beyond tolerance xs + counted tolerance x
beyond_push None xs x = refl
beyond_push (Some tolerance) xs x =
    sum_by-append (λ v. cond (nat_lt tolerance v) 1 0) xs (x ∷ [])
    ∙ ap (λ n. count_by (nat_lt tolerance) xs + n)
    (sum_by-cons (λ v. cond (nat_lt tolerance v) 1 0) x [] ∙ omega arith)

-- no value is the given one where it is above the largest
none_above : (xs : List ℕ) (x : ℕ) → largest xs < x → position_or_len (λ v. v == x) xs ≡ length xs
none_above [] x h = refl
none_above (y ∷ xs) x h =
    let other : (y == x) ≡ false = grind (arith, nat_tests) in
    let rest : position_or_len (λ v. v == x) xs ≡ length xs = none_above xs x (omega arith) in
    rw other (omega arith)

-- some value is the largest, where there is one
some_largest : (xs : List ℕ) (x : ℕ) → x ≡ largest xs → 0 < length xs
    → position_or_len (λ v. v == x) xs < length xs
some_largest [] x e h = absurd (omega arith)
some_largest (y ∷ []) x e h =
    let same : (y == x) ≡ true = grind (arith, nat_tests) in
    rw same (omega arith)
some_largest (y ∷ z ∷ xs) x e h = by_first (y == x) refl (some_largest (z ∷ xs) x)
  where
    by_first : (b : Bool) → (y == x) ≡ b
        → (x ≡ largest (z ∷ xs) → 0 < length (z ∷ xs)
        → position_or_len (λ v. v == x) (z ∷ xs) < length (z ∷ xs))
        → position_or_len (λ v. v == x) (y ∷ z ∷ xs) < length (y ∷ z ∷ xs)
    by_first true is later = rw is (omega arith)
    by_first false is later =
        let other : y ≢ x = grind (arith, nat_tests) in
        let found = later (omega arith) (omega arith) in
        rw is (omega (arith, found))

first_rises : (xs : List ℕ) (x : ℕ) → largest xs < x → first_largest (xs ++ x ∷ []) ≡ length xs
first_rises xs x h =
    let most : largest (xs ++ x ∷ []) ≡ x = largest_push xs x ∙ omega arith in
    let none = none_above xs x h in
    let here : (x == x) ≡ true = grind (arith, nat_tests) in
    let past : eqb (length xs) (length xs) ≡ true = grind (arith, nat_tests) in
    ap (λ m. position_or_len (λ v. v == m) (xs ++ x ∷ [])) most
    ∙ position_or_len_push (λ v. v == x) xs x
    ∙ rw (none, past, here) (omega arith)

first_stays : (xs : List ℕ) (x : ℕ) → x ≤ largest xs
    → first_largest (xs ++ x ∷ []) ≡ first_largest xs
first_stays [] x h =
    let none : x ≡ 0 = omega arith in
    rw none refl
first_stays (y ∷ ys) x h =
    let most : largest (y ∷ ys ++ x ∷ []) ≡ largest (y ∷ ys) =
    largest_push (y ∷ ys) x ∙ omega arith in
    let below = some_largest (y ∷ ys) (largest (y ∷ ys)) refl (omega arith) in
    let inside : eqb (first_largest (y ∷ ys)) (length (y ∷ ys)) ≡ false =
    grind (arith, nat_tests) in
    ap (λ m. position_or_len (λ v. v == m) (y ∷ ys ++ x ∷ [])) most
    ∙ position_or_len_push (λ v. v == largest (y ∷ ys)) (y ∷ ys) x
    ∙ rw inside refl

pub same_tally : (over more value most cell first : ℕ) → over ≡ more → value ≡ most → cell ≡ first
    → ◌≡◌ {A = Summary} (record { over = over; value = value; cell = cell })
    (record { over = more; value = most; cell = first })
same_tally over more value most cell first h k l = cc

-- with one more value, greater than the largest or not
pub with_greater : (tolerance : Option ℕ) (values : List ℕ) (value cell over : ℕ) (tally : Summary)
    → over ≡ tally.over + counted tolerance value → tally.value < value → length values ≡ cell
    → tally ≡ tally_of tolerance values
    → ◌≡◌ {A = Summary} (record { over = over; value = value; cell = cell })
    (tally_of tolerance (values ++ value ∷ []))
unfolding tally_of
with_greater tolerance values value cell over tally counts greater count is =
    let most : largest values < value = omega (arith, ap (λ (t : Summary). t.value) is) in
    let overs : over ≡ beyond tolerance (values ++ value ∷ []) =
    counts ∙ ap (λ (t : Summary). t.over + counted tolerance value) is
    ∙ sym (beyond_push tolerance values value) in
    let tops : value ≡ largest (values ++ value ∷ []) = omega (arith, largest_push values value) in
    same_tally over _ value _ cell _ overs tops (sym (first_rises values value most ∙ count))

pub with_lesser : (tolerance : Option ℕ) (values : List ℕ) (value over : ℕ) (tally : Summary)
    → over ≡ tally.over + counted tolerance value → value ≤ tally.value
    → tally ≡ tally_of tolerance values
    → ◌≡◌ {A = Summary} (record { over = over; value = tally.value; cell = tally.cell })
    (tally_of tolerance (values ++ value ∷ []))
unfolding tally_of
with_lesser tolerance values value over tally counts lesser is =
    let top : tally.value ≡ largest values = ap (λ (t : Summary). t.value) is in
    let most : value ≤ largest values = omega arith in
    let overs : over ≡ beyond tolerance (values ++ value ∷ []) =
    counts ∙ ap (λ (t : Summary). t.over + counted tolerance value) is
    ∙ sym (beyond_push tolerance values value) in
    let tops : tally.value ≡ largest (values ++ value ∷ []) =
    omega (arith, largest_push values value) in
    same_tally over _ tally.value _ tally.cell _ overs tops
    (ap (λ (t : Summary). t.cell) is ∙ sym (first_stays values value most))
