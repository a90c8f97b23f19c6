-- The sum over all places of a grid is that over the four about a point: every other place is a
-- spacing or more away along an axis, and so has no weight.
use Rattle.std.proofs.Common.{◌≡◌, ℕ, zero, suc, ◌+◌, ◌-◌, ◌*◌, ◌/◌, ◌<◌, ◌≤◌}
use Rattle.std.proofs.Common.{ℤ, pos, negsuc, ◌+ℤ◌, ◌-ℤ◌, ◌*ℤ◌, unsigned_abs, Option}
use Rattle.std.proofs.Common.{arith, refl, ap, sym, subst, ◌∙◌, ◌⊎◌, inl, inr}
use Rattle.std.proofs.lemmas.Bool.{cases_lt, lt-ltb, le-ltb}
use Rattle.std.proofs.lemmas.Int.{ints}
use Rattle.std.proofs.Math.Nat.{mul-le-mul_right, le-div_iff_mul-le, div-lt_iff_lt-mul}
use Rattle.std.proofs.Math.Nat.{mul-add-div_right}
use Rattle.std.proofs.Math.IntN.{zero-*ℤ}
use Rattle.ldp_heights.specs.Grid.{HeightGrid, Coordinate, corner, centre, centre_along}
use Rattle.ldp_heights.specs.Grid.{centre_x, centre_y, place_height}
use Rattle.ldp_alignment.specs.Heights.{total, reach, share, sum_over, places_before, west}
use Rattle.ldp_alignment.specs.Heights.{height_at, mean, presence, height_or_zero}
use Rattle.ldp_alignment.specs.Heights.{south, within, two_shares, four_shares, FourAreEnough}

-- Sums.

pub inside : (f : ℕ → ℤ) (n i : ℕ) → i < n → within f n i ≡ f i
inside f n i h = rw (lt-ltb i n h) refl

pub outside : (f : ℕ → ℤ) (n i : ℕ) → n ≤ i → within f n i ≡ pos 0
outside f n i h = rw (le-ltb i n h) refl

sides_by : (m n : ℕ) → (m < n) ⊎ (n ≤ m) → (n < m) ⊎ (m ≤ n) → (m ≡ n) ⊎ ((m < n) ⊎ (n < m))
sides_by m n (inl h) k = inr (inl h)
sides_by m n (inr h) (inl k) = inr (inr k)
sides_by m n (inr h) (inr k) = inl (omega arith)

sides : (m n : ℕ) → (m ≡ n) ⊎ ((m < n) ⊎ (n < m))
sides m n = sides_by m n (cases_lt m n) (cases_lt n m)

-- one more of the first numbers changes nothing at another number
longer : (f : ℕ → ℤ) (n i : ℕ) → (n < i) ⊎ (i < n) → within f (suc n) i ≡ within f n i
longer f n i (inl h) = outside f (suc n) i (omega arith) ∙ sym (outside f n i (omega arith))
longer f n i (inr h) = inside f (suc n) i (omega arith) ∙ sym (inside f n i h)

pub add-zero : (z : ℤ) → z +ℤ pos 0 ≡ z
add-zero z = omega (arith, ints)

pub zero-add : (z : ℤ) → pos 0 +ℤ z ≡ z
zero-add z = omega (arith, ints)

-- a sum is that of f a and f (a + 1)
abbrev IsTwo : (ℕ → ℤ) → ℕ → ℕ → Type 0
IsTwo f a n = total f n ≡ within f n a +ℤ within f n (a + 1)

-- one number more, when it is none of the two
no_more : (f : ℕ → ℤ) (a n : ℕ) → IsTwo f a n → f n ≡ pos 0 → (n < a) ⊎ (a + 1 < n)
    → IsTwo f a (suc n)
no_more f a n before none (inl h) =
    rw (longer f n a (inl h), longer f n (a + 1) (inl (omega arith)), none)
    (add-zero (total f n) ∙ before)
no_more f a n before none (inr h) =
    rw (longer f n a (inr (omega arith)), longer f n (a + 1) (inr h), none)
    (add-zero (total f n) ∙ before)

-- one number more, when it is the first of the two
first_more : (f : ℕ → ℤ) (n : ℕ) → IsTwo f n n → IsTwo f n (suc n)
first_more f n before =
    let none : total f n ≡ pos 0 =
    before ∙ ap (λ z. z +ℤ within f n (n + 1)) (outside f n n (omega arith))
    ∙ zero-add (within f n (n + 1)) ∙ outside f n (n + 1) (omega arith) in
    let here = inside f (suc n) n (omega arith) in
    let off = outside f (suc n) (n + 1) (omega arith) in
    ap (λ z. z +ℤ f n) none ∙ zero-add (f n) ∙ sym (add-zero (f n))
    ∙ sym (ap (λ z. z +ℤ pos 0) here) ∙ sym (ap (λ z. within f (suc n) n +ℤ z) off)

-- one number more, when it is the second of the two
second_more : (f : ℕ → ℤ) (a : ℕ) → IsTwo f a (a + 1) → IsTwo f a (suc (a + 1))
second_more f a before =
    let so_far : total f (a + 1) ≡ within f (a + 1) a =
    before ∙ ap (λ z. within f (a + 1) a +ℤ z) (outside f (a + 1) (a + 1) (omega arith))
    ∙ add-zero (within f (a + 1) a) in
    let first = longer f (a + 1) a (inr (omega arith)) in
    let here = inside f (suc (a + 1)) (a + 1) (omega arith) in
    ap (λ z. z +ℤ f (a + 1)) (so_far ∙ sym first)
    ∙ sym (ap (λ z. within f (suc (a + 1)) a +ℤ z) here)

-- every other number is 0
abbrev AreNone : (ℕ → ℤ) → ℕ → ℕ → Type 0
AreNone f a n = (k : ℕ) → k < n → (k ≡ a → ⊥) → (k ≡ a + 1 → ⊥) → f k ≡ pos 0

beyond : (f : ℕ → ℤ) (a n : ℕ) → AreNone f a (suc n) → IsTwo f a n → a < n
    → (n ≡ a + 1) ⊎ ((n < a + 1) ⊎ (a + 1 < n)) → IsTwo f a (suc n)
beyond f a n rest before h (inl e) =
    subst (λ m. IsTwo f a (suc m)) (sym e) (second_more f a (subst (IsTwo f a) e before))
beyond f a n rest before h (inr (inl k)) = absurd (omega arith)
beyond f a n rest before h (inr (inr k)) =
    no_more f a n before (rest n (omega arith) (λ e. omega arith) (λ e. omega arith)) (inr k)

one_more : (f : ℕ → ℤ) (a n : ℕ) → AreNone f a (suc n) → IsTwo f a n
    → (n ≡ a) ⊎ ((n < a) ⊎ (a < n)) → IsTwo f a (suc n)
one_more f a n rest before (inl e) =
    subst (λ m. IsTwo f m (suc n)) e (first_more f n (subst (λ m. IsTwo f m n) (sym e) before))
one_more f a n rest before (inr (inl h)) =
    no_more f a n before (rest n (omega arith) (λ e. omega arith) (λ e. omega arith)) (inl h)
one_more f a n rest before (inr (inr h)) = beyond f a n rest before h (sides n (a + 1))

-- a sum whose numbers are 0 but for two that follow each other
pub two_count : (f : ℕ → ℤ) (a n : ℕ) → AreNone f a n → IsTwo f a n
two_count f a zero rest =
    sym (ap (λ z. z +ℤ within f 0 (a + 1)) (outside f 0 a (omega arith))
    ∙ zero-add (within f 0 (a + 1)) ∙ outside f 0 (a + 1) (omega arith))
two_count f a (suc n) rest =
    one_more f a n rest (two_count f a n (λ k h. rest k (omega arith))) (sides n a)

pub total_same : (f g : ℕ → ℤ) (n : ℕ) → ((k : ℕ) → k < n → f k ≡ g k) → total f n ≡ total g n
total_same f g zero same = refl
total_same f g (suc n) same =
    ap (λ z. z +ℤ f n) (total_same f g n (λ k h. same k (omega arith)))
    ∙ ap (λ z. total g n +ℤ z) (same n (omega arith))

-- Distances along an axis.

two : (k : ℕ) → (k ≡ 0 → ⊥) → (k ≡ 0 + 1 → ⊥) → 2 ≤ k
two zero first second = absurd (first refl)
two (suc zero) first second = absurd (second refl)
two (suc (suc k)) first second = omega arith

next_by : (k q : ℕ) → (k ≡ q + 1 → ⊥) → q < k → (k ≡ q + 1) ⊎ ((k < q + 1) ⊎ (q + 1 < k))
    → q + 2 ≤ k
next_by k q second h (inl e) = absurd (second e)
next_by k q second h (inr (inl less)) = absurd (omega arith)
next_by k q second h (inr (inr more)) = omega arith

beyond_next : (k q : ℕ) → q < k → (k ≡ q + 1 → ⊥) → q + 2 ≤ k
beyond_next k q h second = next_by k q second h (sides k (q + 1))

-- every centre but two that follow each other is a spacing or more away
distance : (z : ℤ) (s k : ℕ) → 0 < s → (k ≡ places_before s z → ⊥)
    → (k ≡ places_before s z + 1 → ⊥) → s ≤ unsigned_abs (z -ℤ pos (k * s))
distance (pos d) s k some first second = far (sides k (d / s))
  where
    low : d / s * s ≤ d
    low = (le-div_iff_mul-le {k = s} {x = d / s} {y = d} some).0 (omega arith)

    high : d < (d / s + 1) * s
    high = (div-lt_iff_lt-mul {k = s} {x = d} {y = d / s + 1} some).0 (omega arith)

    far : (k ≡ d / s) ⊎ ((k < d / s) ⊎ (d / s < k)) → s ≤ unsigned_abs (pos d -ℤ pos (k * s))
    far (inl e) = absurd (first e)
    far (inr (inl h)) =
        let step : (k + 1) * s ≤ d / s * s = mul-le-mul_right {m = k + 1} {n = d / s} s (omega arith) in
        let before : k * s + s ≤ d = omega arith in
        omega (arith, ints)
    far (inr (inr h)) =
        let step : (d / s + 2) * s ≤ k * s = mul-le-mul_right {m = d / s + 2} {n = k} s (beyond_next k (d / s) h second) in
        let behind : d + s ≤ k * s = omega arith in
        omega (arith, ints)
distance (negsuc d) s k some first second =
    let step : 2 * s ≤ k * s = mul-le-mul_right {m = 2} {n = k} s (two k first second) in
    omega (arith, ints)

no_reach : (s k : ℕ) (at first middle : ℤ) → 0 < s → middle ≡ first +ℤ pos (k * s)
    → (k ≡ places_before s (at -ℤ first) → ⊥) → (k ≡ places_before s (at -ℤ first) + 1 → ⊥)
    → reach s at middle ≡ 0
no_reach s k at first middle some e one next =
    let far = distance (at -ℤ first) s k some one next in
    let same : at -ℤ middle ≡ (at -ℤ first) -ℤ pos (k * s) = omega (arith, ints, e) in
    let away : s ≤ unsigned_abs (at -ℤ middle) = rw same far in
    omega arith

half_more : (k s : ℕ) → (2 * k + 1) * s / 2 ≡ k * s + s / 2
half_more k s =
    let twice : (2 * k + 1) * s ≡ k * s * 2 + s = omega arith in
    ap (λ n. n / 2) twice ∙ mul-add-div_right {m = 2} (omega arith) (k * s) s

-- the centres along an axis are a spacing apart
pub apart : (given : Coordinate) (s k : ℕ)
    → centre_along given s k ≡ centre_along given s 0 +ℤ pos (k * s)
apart (corner edge) s k =
    let here = half_more k s in
    let start = half_more 0 s in
    omega (arith, ints, here, start)
apart (centre first) s k = omega (arith, ints)

-- Shares.

pub no_share : (a b : ℕ) (told : ℤ) → (a ≡ 0) ⊎ (b ≡ 0) → pos (a * b) *ℤ told ≡ pos 0
no_share a b told (inl e) =
    let none : a * b ≡ 0 = ap (λ n. n * b) e ∙ omega arith in
    ap (λ n. pos n *ℤ told) none ∙ zero-*ℤ told
no_share a b told (inr e) =
    let none : a * b ≡ 0 = ap (λ n. a * n) e ∙ omega arith in
    ap (λ n. pos n *ℤ told) none ∙ zero-*ℤ told

none_within : (f : ℕ → ℤ) (n i : ℕ) → (i < n) ⊎ (n ≤ i) → ((k : ℕ) → f k ≡ pos 0)
    → within f n i ≡ pos 0
none_within f n i (inl h) none = inside f n i h ∙ none i
none_within f n i (inr h) none = outside f n i h

-- the centres of the row that stands so far from the south
pub south_apart : (grid : HeightGrid) (k : ℕ) → k < grid.rows
    → centre_y grid (grid.rows - 1 - k) ≡ south grid +ℤ pos (k * grid.spacing)
south_apart grid k h =
    let here : grid.rows - 1 - (grid.rows - 1 - k) ≡ k = omega arith in
    let start : grid.rows - 1 - (grid.rows - 1) ≡ 0 = omega arith in
    ap (λ n. centre_along grid.y grid.spacing n) here ∙ apart grid.y grid.spacing k
    ∙ sym (ap (λ n. centre_along grid.y grid.spacing n +ℤ pos (k * grid.spacing)) start)

pub four_enough : FourAreEnough
unfolding sum_over
four_enough told grid x y some =
    total_same (λ k. total (share told grid x y k) grid.cols) (two_shares told grid x y column)
    grid.rows (λ k h. along k)
    ∙ two_count (two_shares told grid x y column) row grid.rows across
  where
    row : ℕ
    row = places_before grid.spacing (y -ℤ south grid)

    column : ℕ
    column = places_before grid.spacing (x -ℤ west grid)

    along : (k : ℕ) → total (share told grid x y k) grid.cols ≡ two_shares told grid x y column k
    along k = two_count (share told grid x y k) column grid.cols (λ c h one next.
        no_share (reach grid.spacing y (centre_y grid (grid.rows - 1 - k)))
        (reach grid.spacing x (centre_x grid c)) (told (place_height grid (grid.rows - 1 - k) c))
        (inr (no_reach grid.spacing c x (west grid) (centre_x grid c) some (apart grid.x grid.spacing c) one next)))

    across : (k : ℕ) → k < grid.rows → (k ≡ row → ⊥) → (k ≡ row + 1 → ⊥)
        → two_shares told grid x y column k ≡ pos 0
    across k h one next =
        let away = no_reach grid.spacing k y (south grid) (centre_y grid (grid.rows - 1 - k)) some (south_apart grid k h) one next in
        let none = λ (c : ℕ). no_share (reach grid.spacing y (centre_y grid (grid.rows - 1 - k)))
        (reach grid.spacing x (centre_x grid c)) (told (place_height grid (grid.rows - 1 - k) c)) (inl away) in
        ap (λ z. z +ℤ within (share told grid x y k) grid.cols (column + 1))
        (none_within (share told grid x y k) grid.cols column (cases_lt column grid.cols) none)
        ∙ zero-add (within (share told grid x y k) grid.cols (column + 1))
        ∙ none_within (share told grid x y k) grid.cols (column + 1) (cases_lt (column + 1) grid.cols) none

-- The height is the mean of what the four places have.
pub height_of_four : (grid : HeightGrid) (x y weights heights : ℤ) (result : Option ℤ)
    → 0 < grid.spacing
    → result ≡ mean (grid.spacing * grid.spacing) weights heights
    → weights ≡ four_shares presence grid x y (places_before grid.spacing (y -ℤ south grid))
    (places_before grid.spacing (x -ℤ west grid))
    → heights ≡ four_shares height_or_zero grid x y
    (places_before grid.spacing (y -ℤ south grid))
    (places_before grid.spacing (x -ℤ west grid))
    → result ≡ height_at grid x y
unfolding height_at
height_of_four grid x y weights heights result some is w h =
    is ∙ ap (λ z. mean (grid.spacing * grid.spacing) z heights)
    (w ∙ sym (four_enough presence grid x y some))
    ∙ ap (λ z. mean (grid.spacing * grid.spacing) (sum_over presence grid x y) z)
    (h ∙ sym (four_enough height_or_zero grid x y some))
