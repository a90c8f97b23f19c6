-- At a centre the place itself has the whole weight, and its neighbours have none.
use Rattle.std.proofs.Common.{◌≡◌, ℕ, suc, ◌+◌, ◌-◌, ◌*◌, ◌/◌, ◌<◌, ◌≤◌, ℤ, pos, negsuc, neg_ℤ}
use Rattle.std.proofs.Common.{◌+ℤ◌, ◌-ℤ◌, ◌*ℤ◌, unsigned_abs, Option, Some, arith, ap, sym}
use Rattle.std.proofs.Common.{◌∙◌, ◌⊎◌, inl, inr}
use Rattle.std.proofs.lemmas.Bool.{cases_lt}
use Rattle.std.proofs.lemmas.Int.{ints}
use Rattle.std.proofs.Math.Nat.{mul-div_cancel, mul-div_cancel_left, div-eq_of_lt-le, mul-le-mul}
use Rattle.std.proofs.Math.IntN.{pos-*ℤ-pos, pos-*ℤ-negsuc}
use Rattle.ldp_num.specs.Plain.{floor_div}
use Rattle.ldp_heights.specs.Grid.{HeightGrid, centre_x, centre_y}
use Rattle.ldp_heights.specs.Grid.{place_height}
use Rattle.ldp_alignment.specs.Heights.{reach, share, sum_over, places_before, west, south, within}
use Rattle.ldp_alignment.specs.Heights.{place_share, two_shares, four_shares, presence}
use Rattle.ldp_alignment.specs.Heights.{height_or_zero, height_at, ExactAtCentres}
use Rattle.ldp_alignment.proofs.Bounds.{mean_told}
use Rattle.ldp_alignment.proofs.Fours.{inside, outside, add-zero, no_share, apart, south_apart}
use Rattle.ldp_alignment.proofs.Fours.{four_enough}

-- Quotients.

floor_below : (w n : ℕ) (z : ℤ) → 0 < w → z ≡ neg_ℤ (pos (w * suc n)) → floor_div z w ≡ negsuc n
floor_below w n (pos a) some e =
    let more : 1 * 1 ≤ w * suc n = mul-le-mul {m₁ = 1} {m₂ = suc n} some (omega arith) in
    absurd (omega (arith, ints, e, more))
floor_below w n (negsuc a) some e =
    let is : a + 1 ≡ w * suc n = omega (arith, ints, e) in
    let quotient : a / w ≡ n = div-eq_of_lt-le {k = n} w {m = a} (omega (arith, is, some)) (omega (arith, is, some)) in
    ap negsuc quotient

floor_back : (w : ℕ) (h : ℤ) → 0 < w → floor_div (pos w *ℤ h) w ≡ h
floor_back w (pos n) some =
    ap (λ z. floor_div z w) (pos-*ℤ-pos w n) ∙ ap pos (mul-div_cancel_left n some)
floor_back w (negsuc n) some = floor_below w n (pos w *ℤ negsuc n) some (pos-*ℤ-negsuc w n)

-- Along an axis.

reach_here : (s : ℕ) (z : ℤ) → reach s z z ≡ s
reach_here s z =
    let none : z -ℤ z ≡ pos 0 = omega (arith, ints) in
    ap (λ d. s - unsigned_abs d) none ∙ omega arith

reach_next : (s : ℕ) (at next : ℤ) → next ≡ at +ℤ pos s → reach s at next ≡ 0
reach_next s at next e =
    let away : at -ℤ next ≡ neg_ℤ (pos s) = omega (arith, ints, e) in
    ap (λ d. s - unsigned_abs d) away ∙ omega (arith, ints)

before_here : (s k : ℕ) (at first : ℤ) → 0 < s → at ≡ first +ℤ pos (k * s)
    → places_before s (at -ℤ first) ≡ k
before_here s k at first some e =
    let away : at -ℤ first ≡ pos (k * s) = omega (arith, ints, e) in
    ap (places_before s) away ∙ mul-div_cancel k some

next_along : (s k : ℕ) (first here next : ℤ) → here ≡ first +ℤ pos (k * s)
    → next ≡ first +ℤ pos ((k + 1) * s) → next ≡ here +ℤ pos s
next_along s k first here next e f =
    let one : (k + 1) * s ≡ k * s + s = omega arith in
    omega (arith, ints, e, f, one)

none_at : (f : ℕ → ℤ) (n i : ℕ) → (i < n) ⊎ (n ≤ i) → (i < n → f i ≡ pos 0)
    → within f n i ≡ pos 0
none_at f n i (inl h) none = inside f n i h ∙ none h
none_at f n i (inr h) none = outside f n i h

-- The sum at a centre.

-- so far from the south
abbrev southward : HeightGrid → ℕ → ℕ
southward grid row = grid.rows - 1 - row

-- the row after it, counted from the south, has no share
no_next_row : (told : Option ℤ → ℤ) (grid : HeightGrid) (row column : ℕ) (x : ℤ) → row < grid.rows
    → within (two_shares told grid x (centre_y grid row) column) grid.rows (southward grid row + 1)
    ≡ pos 0
no_next_row told grid row column x h =
    none_at (two_shares told grid x y column) grid.rows (k + 1) (cases_lt (k + 1) grid.rows) none
  where
    k : ℕ
    k = southward grid row

    y : ℤ
    y = centre_y grid row

    here : y ≡ south grid +ℤ pos (k * grid.spacing)
    here =
        let same : grid.rows - 1 - k ≡ row = omega arith in
        ap (centre_y grid) (sym same) ∙ south_apart grid k (omega arith)

    none : k + 1 < grid.rows → two_shares told grid x y column (k + 1) ≡ pos 0
    none more =
        let away = reach_next grid.spacing y (centre_y grid (grid.rows - 1 - (k + 1)))
        (next_along grid.spacing k (south grid) y _ here (south_apart grid (k + 1) more)) in
        let share_none = λ (c : ℕ). no_share
        (reach grid.spacing y (centre_y grid (grid.rows - 1 - (k + 1))))
        (reach grid.spacing x (centre_x grid c))
        (told (place_height grid (grid.rows - 1 - (k + 1)) c)) (inl away) in
        ap (λ z. z +ℤ within (share told grid x y (k + 1)) grid.cols (column + 1))
        (none_at (share told grid x y (k + 1)) grid.cols column (cases_lt column grid.cols)
        (λ in_grid. share_none column))
        ∙ ap (λ z. pos 0 +ℤ z)
        (none_at (share told grid x y (k + 1)) grid.cols (column + 1)
        (cases_lt (column + 1) grid.cols) (λ in_grid. share_none (column + 1)))

-- the column after it has no share
no_next_column : (told : Option ℤ → ℤ) (grid : HeightGrid) (k column : ℕ) (y : ℤ)
    → within (share told grid (centre_x grid column) y k) grid.cols (column + 1) ≡ pos 0
no_next_column told grid k column y =
    let x = centre_x grid column in
    let away = reach_next grid.spacing x (centre_x grid (column + 1))
    (next_along grid.spacing column (west grid) x _ (apart grid.x grid.spacing column)
    (apart grid.x grid.spacing (column + 1))) in
    none_at (share told grid x y k) grid.cols (column + 1) (cases_lt (column + 1) grid.cols)
    (λ in_grid. no_share (reach grid.spacing y (centre_y grid (grid.rows - 1 - k)))
    (reach grid.spacing x (centre_x grid (column + 1)))
    (told (place_height grid (grid.rows - 1 - k) (column + 1))) (inr away))

-- the place itself has the whole weight
own_share : (told : Option ℤ → ℤ) (grid : HeightGrid) (row column : ℕ) → row < grid.rows
    → share told grid (centre_x grid column) (centre_y grid row) (southward grid row) column
    ≡ pos (grid.spacing * grid.spacing) *ℤ told (place_height grid row column)
own_share told grid row column h =
    let x = centre_x grid column in
    let y = centre_y grid row in
    let same : grid.rows - 1 - southward grid row ≡ row = omega arith in
    ap (λ n. place_share told grid x y n column) same
    ∙ ap (λ n. pos (n * reach grid.spacing x x) *ℤ told (place_height grid row column))
    (reach_here grid.spacing y)
    ∙ ap (λ n. pos (grid.spacing * n) *ℤ told (place_height grid row column))
    (reach_here grid.spacing x)

sum_here : (told : Option ℤ → ℤ) (grid : HeightGrid) (row column : ℕ) → 0 < grid.spacing
    → row < grid.rows → column < grid.cols
    → sum_over told grid (centre_x grid column) (centre_y grid row)
    ≡ pos (grid.spacing * grid.spacing) *ℤ told (place_height grid row column)
sum_here told grid row column some in_rows in_cols =
    four_enough told grid x y some
    ∙ ap (λ n. four_shares told grid x y n (places_before grid.spacing (x -ℤ west grid))) at_row
    ∙ ap (λ n. four_shares told grid x y k n) at_column
    ∙ ap (λ z. within (two_shares told grid x y column) grid.rows k +ℤ z)
    (no_next_row told grid row column x in_rows)
    ∙ add-zero (within (two_shares told grid x y column) grid.rows k)
    ∙ inside (two_shares told grid x y column) grid.rows k (omega arith)
    ∙ ap (λ z. within (share told grid x y k) grid.cols column +ℤ z)
    (no_next_column told grid k column y)
    ∙ add-zero (within (share told grid x y k) grid.cols column)
    ∙ inside (share told grid x y k) grid.cols column in_cols
    ∙ own_share told grid row column in_rows
  where
    k : ℕ
    k = southward grid row

    x : ℤ
    x = centre_x grid column

    y : ℤ
    y = centre_y grid row

    at_row : places_before grid.spacing (y -ℤ south grid) ≡ k
    at_row =
        let same : grid.rows - 1 - k ≡ row = omega arith in
        before_here grid.spacing k y (south grid) some
        (ap (centre_y grid) (sym same) ∙ south_apart grid k (omega arith))

    at_column : places_before grid.spacing (x -ℤ west grid) ≡ column
    at_column =
        before_here grid.spacing column x (west grid) some (apart grid.x grid.spacing column)

pub exact_at_centres : ExactAtCentres
unfolding height_at
exact_at_centres grid row column height kept in_rows in_cols is =
    let some : 0 < grid.spacing = kept.spacing.0 in
    let some_whole : 1 * 1 ≤ grid.spacing * grid.spacing = mul-le-mul some some in
    let weights = sum_here presence grid row column some in_rows in_cols
    ∙ ap (λ told. pos (grid.spacing * grid.spacing) *ℤ presence told) is
    ∙ pos-*ℤ-pos (grid.spacing * grid.spacing) 1
    ∙ ap pos (times_one (grid.spacing * grid.spacing)) in
    let heights = sum_here height_or_zero grid row column some in_rows in_cols
    ∙ ap (λ told. pos (grid.spacing * grid.spacing) *ℤ height_or_zero told) is in
    sym (mean_told (grid.spacing * grid.spacing) _ _ weights)
    ∙ ap (λ z. Some (floor_div z (grid.spacing * grid.spacing))) heights
    ∙ ap Some (floor_back (grid.spacing * grid.spacing) height (omega arith))
  where
    times_one : (n : ℕ) → n * 1 ≡ n
    times_one n = omega arith
