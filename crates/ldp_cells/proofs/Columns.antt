-- The columns of a row that lie west of where an edge meets its height.
use Rattle.std.proofs.Common.{◌≡◌, ◌≢◌, ℕ, zero, suc, ◌+◌, ◌-◌, ◌*◌, ◌/◌, ◌<◌, ◌≤◌, min, Bool}
use Rattle.std.proofs.Common.{true, false}
use Rattle.std.proofs.Common.{nat_lt, ℤ, pos, negsuc, ◌+ℤ◌, ◌-ℤ◌, ◌*ℤ◌, ◌≤ℤ◌, ◌<ℤ◌, int_lt}
use Rattle.std.proofs.Common.{int_le, ◌&&◌, unsigned_abs}
use Rattle.std.proofs.Common.{arith, refl, ap, sym, subst, ◌∙◌, inl, inr, ◌⊎◌}
use Rattle.std.proofs.lemmas.Bool.{cases_lt, lt-ltb, le-ltb}
use Rattle.std.proofs.lemmas.Int.{ints, by_lt_z}
use Rattle.std.proofs.Math.Nat.{le-div_iff_mul-le, div-lt_iff_lt-mul, mul_assoc, mul-le-mul}
use Rattle.std.proofs.Math.IntN.{suc_ℤ-*ℤ, +ℤ_one, zero-*ℤ, pos-*ℤ-pos, pos-*ℤ-negsuc}
use Rattle.ldp_zone.specs.Inside.{edge_east, point_east, meets_east, in_box, on_line, on_edge}
use Rattle.ldp_zone.specs.declared.edge.Edge.{Edge}
use Rattle.ldp_cells.specs.Rows.{column_centre, gap}
use Rattle.ldp_cells.specs.declared.row.Row.{Row}

-- Orders of whole numbers as tests.
pub int_below : (a b : ℤ) → a <ℤ b → int_lt a b ≡ true
int_below a b h = grind (arith, ints)

pub int_not_below : (a b : ℤ) → b ≤ℤ a → int_lt a b ≡ false
int_not_below a b h = grind (arith, ints)

-- Steps.

before_by : (column step distance cols : ℕ) → 1 ≤ step → column < cols
    → (column * step < suc distance) ⊎ (suc distance ≤ column * step)
    → nat_lt column (min (distance / step + 1) cols) ≡ nat_lt (column * step) (suc distance)
before_by column step distance cols some within (inl h) =
    let many : column ≤ distance / step =
    (le-div_iff_mul-le {k = step} {x = column} {y = distance} (omega arith)).1 (omega arith) in
    lt-ltb column (min (distance / step + 1) cols) (omega arith)
    ∙ sym (lt-ltb (column * step) (suc distance) h)
before_by column step distance cols some within (inr h) =
    let few : distance / step < column =
    (div-lt_iff_lt-mul {k = step} {x = distance} {y = column} (omega arith)).1 (omega arith) in
    le-ltb column (min (distance / step + 1) cols) (omega arith)
    ∙ sym (le-ltb (column * step) (suc distance) h)

-- so many columns are less than so far from the first
pub before : (cols step west : ℕ) (distance : ℤ) → 1 ≤ step → pos 0 <ℤ distance
    → west ≡ min ((unsigned_abs distance - 1) / step + 1) cols
    → (column : ℕ) → column < cols
    → nat_lt column west ≡ int_lt (pos (column * step)) distance
before cols step west (negsuc n) some far is = absurd (omega (arith, ints))
before cols step west (pos zero) some far is = absurd (omega (arith, ints))
before cols step west (pos (suc n)) some far is = λ column within.
    let less : suc n - 1 ≡ n = omega arith in
    rw (is, less) (before_by column step n cols some within
    (cases_lt (column * step) (suc n)))

pub none_before : (step : ℕ) (distance : ℤ) → distance ≤ℤ pos 0 → (column : ℕ)
    → nat_lt column 0 ≡ int_lt (pos (column * step)) distance
none_before step distance h column =
    le-ltb column 0 (omega arith)
    ∙ sym (int_not_below (pos (column * step)) distance (omega (arith, ints)))

-- The products of a column.

shift : (a : ℤ) (k : ℕ) (r : ℤ) → (a +ℤ pos k) *ℤ r ≡ (a *ℤ r) +ℤ (pos k *ℤ r)
shift a zero r =
    let same : a +ℤ pos 0 ≡ a = omega (arith, ints) in
    let none = zero-*ℤ r in
    ap (λ (b : ℤ). b *ℤ r) same ∙ omega (arith, ints)
shift a (suc k) r =
    let next : a +ℤ pos (suc k) ≡ (a +ℤ pos k) +ℤ pos 1 = omega (arith, ints) in
    let one = next ∙ +ℤ_one (a +ℤ pos k) in
    let more = suc_ℤ-*ℤ (a +ℤ pos k) r in
    let last = suc_ℤ-*ℤ (pos k) r in
    let rest = shift a k r in
    ap (λ (b : ℤ). b *ℤ r) one ∙ omega (arith, ints)

-- a column lies so many steps east of the first
rising_by : (x sx : ℤ) (k r : ℕ) (d : ℤ) → d ≡ pos r
    → ((x +ℤ pos k) -ℤ sx) *ℤ d ≡ ((x -ℤ sx) *ℤ d) +ℤ pos (k * r)
rising_by x sx k r d e =
    let moved : (x +ℤ pos k) -ℤ sx ≡ (x -ℤ sx) +ℤ pos k = omega (arith, ints) in
    ap (λ (b : ℤ). b *ℤ d) moved ∙ shift (x -ℤ sx) k d
    ∙ ap (λ (b : ℤ). ((x -ℤ sx) *ℤ d) +ℤ b) (rw e (pos-*ℤ-pos k r))

falling_by : (x sx : ℤ) (k r : ℕ) (d : ℤ) → d ≡ negsuc r
    → ((x +ℤ pos k) -ℤ sx) *ℤ d ≡ ((x -ℤ sx) *ℤ d) -ℤ pos (k * suc r)
falling_by x sx k r d e =
    let moved : (x +ℤ pos k) -ℤ sx ≡ (x -ℤ sx) +ℤ pos k = omega (arith, ints) in
    ap (λ (b : ℤ). b *ℤ d) moved ∙ shift (x -ℤ sx) k d
    ∙ ap (λ (b : ℤ). ((x -ℤ sx) *ℤ d) +ℤ b) (rw e (pos-*ℤ-negsuc k r))

lt_up : (a b : ℤ) (n : ℕ) → int_lt (a +ℤ pos n) b ≡ int_lt (pos n) (b -ℤ a)
lt_up a b n = grind (arith, ints)

lt_down : (a b : ℤ) (n : ℕ) → int_lt b (a -ℤ pos n) ≡ int_lt (pos n) (a -ℤ b)
lt_down a b n = grind (arith, ints)

same_by : (a b : ℤ) → (int_le a b && int_le b a) ≡ true → a ≡ b
same_by a b h = grind (arith, ints)

right : (a b : Bool) → (a && b) ≡ true → b ≡ true
right true b e = e
right false b e = absurd cc

-- how far east of the start of an edge a column lies, times the rise
abbrev east_of : Row → Edge → ℕ → ℤ
east_of row edge column = point_east (column_centre row column) edge

-- where the line through an edge meets the height of the row
abbrev met : Row → Edge → ℤ
met row edge = edge_east (column_centre row 0) edge

first_column : (row : Row) → row.x +ℤ pos (0 * row.spacing) ≡ row.x
first_column row = omega (arith, ints)

east_rising : (row : Row) (edge : Edge) (column rise : ℕ) → edge.end.y -ℤ edge.start.y ≡ pos rise
    → east_of row edge column ≡ east_of row edge 0 +ℤ pos (column * (row.spacing * rise))
unfolding point_east
east_rising row edge column rise e =
    let d = edge.end.y -ℤ edge.start.y in
    let products = mul_assoc column row.spacing rise in
    rising_by row.x edge.start.x (column * row.spacing) rise d e
    ∙ ap (λ (x : ℤ). ((x -ℤ edge.start.x) *ℤ d) +ℤ pos (column * row.spacing * rise))
    (sym (first_column row))
    ∙ ap (λ (n : ℕ). east_of row edge 0 +ℤ pos n) products

east_falling : (row : Row) (edge : Edge) (column rise : ℕ)
    → edge.end.y -ℤ edge.start.y ≡ negsuc rise
    → east_of row edge column ≡ east_of row edge 0 -ℤ pos (column * (row.spacing * suc rise))
unfolding point_east
east_falling row edge column rise e =
    let d = edge.end.y -ℤ edge.start.y in
    let products = mul_assoc column row.spacing (suc rise) in
    falling_by row.x edge.start.x (column * row.spacing) rise d e
    ∙ ap (λ (x : ℤ). ((x -ℤ edge.start.x) *ℤ d) -ℤ pos (column * row.spacing * suc rise))
    (sym (first_column row))
    ∙ ap (λ (n : ℕ). east_of row edge 0 -ℤ pos n) products

pub gap_rising : (row : Row) (edge : Edge) → edge.start.y <ℤ edge.end.y
    → gap row edge ≡ met row edge -ℤ east_of row edge 0
unfolding gap
gap_rising row edge h = rw (int_below edge.start.y edge.end.y h) refl

pub gap_falling : (row : Row) (edge : Edge) → edge.end.y ≤ℤ edge.start.y
    → gap row edge ≡ east_of row edge 0 -ℤ met row edge
unfolding gap
gap_falling row edge h = rw (int_not_below edge.start.y edge.end.y h) refl

met_at : (row : Row) (edge : Edge) (column : ℕ)
    → edge_east (column_centre row column) edge ≡ met row edge
unfolding edge_east
met_at row edge column = refl

line_at : (row : Row) (edge : Edge) (column : ℕ) → on_line (column_centre row column) edge ≡ true
    → met row edge ≡ east_of row edge column
unfolding on_line
line_at row edge column h =
    sym (met_at row edge column)
    ∙ same_by (edge_east (column_centre row column) edge) (east_of row edge column) h

-- the columns of a row lie a step apart, times the rise of an edge
pub record StepsApart (row : Row) (edge : Edge) (step : ℕ) : Type 0 where
  pub meets : (column : ℕ)
      → meets_east (column_centre row column) edge ≡ int_lt (pos (column * step)) (gap row edge)
  pub on : (column : ℕ) → on_line (column_centre row column) edge ≡ true
      → pos (column * step) ≡ gap row edge

apart_rising : (row : Row) (edge : Edge) (rise : ℕ) → edge.start.y <ℤ edge.end.y
    → edge.end.y -ℤ edge.start.y ≡ pos rise
    → StepsApart row edge (row.spacing * rise)
unfolding meets_east
apart_rising row edge rise h e =
    let up = int_below edge.start.y edge.end.y h in
    let far = gap_rising row edge h in
    let step = row.spacing * rise in
    record {
      meets = λ column.
          let n = column * step in
          let east = east_rising row edge column rise e in
          rw up (ap (λ (b : ℤ). int_lt b (edge_east (column_centre row column) edge)) east
          ∙ ap (int_lt (east_of row edge 0 +ℤ pos n)) (met_at row edge column)
          ∙ lt_up (east_of row edge 0) (met row edge) n
          ∙ ap (int_lt (pos n)) (sym far));
      on = λ column on.
          let n = column * step in
          let east = east_rising row edge column rise e in
          let line = line_at row edge column on in
          omega (arith, ints);
    }

apart_falling : (row : Row) (edge : Edge) (rise : ℕ) → edge.end.y ≤ℤ edge.start.y
    → edge.end.y -ℤ edge.start.y ≡ negsuc rise
    → StepsApart row edge (row.spacing * suc rise)
unfolding meets_east
apart_falling row edge rise h e =
    let up = int_not_below edge.start.y edge.end.y h in
    let far = gap_falling row edge h in
    let step = row.spacing * suc rise in
    record {
      meets = λ column.
          let n = column * step in
          let east = east_falling row edge column rise e in
          rw up (ap (λ (b : ℤ). int_lt (edge_east (column_centre row column) edge) b) east
          ∙ ap (λ (b : ℤ). int_lt b (east_of row edge 0 -ℤ pos n)) (met_at row edge column)
          ∙ lt_down (east_of row edge 0) (met row edge) n
          ∙ ap (int_lt (pos n)) (sym far));
      on = λ column on.
          let n = column * step in
          let east = east_falling row edge column rise e in
          let line = line_at row edge column on in
          omega (arith, ints);
    }

ap_step : (row : Row) (edge : Edge) {m n : ℕ} → m ≡ n
    → StepsApart row edge (row.spacing * m) → StepsApart row edge (row.spacing * n)
ap_step row edge e h =
    let P : ℕ → Type 0 = λ (k : ℕ). StepsApart row edge (row.spacing * k) in subst P e h

pub apart : (row : Row) (edge : Edge) (rise : ℕ) → edge.start.y ≢ edge.end.y
    → rise ≡ unsigned_abs (edge.start.y -ℤ edge.end.y)
    → StepsApart row edge (row.spacing * rise)
apart row edge rise level is =
    by_lt_z edge.start.y edge.end.y
    (λ h. apart_rising row edge rise h (omega (arith, ints)))
    (λ h.
    let some : 0 < rise = omega (arith, ints) in
    let one : suc (rise - 1) ≡ rise = omega arith in
    let down : edge.end.y -ℤ edge.start.y ≡ negsuc (rise - 1) = omega (arith, ints) in
    ap_step row edge one (apart_falling row edge (rise - 1) h down))

nat_lt_self : (n : ℕ) → nat_lt n n ≡ false
nat_lt_self n = le-ltb n n (omega arith)

-- a column on an edge that is not level is the first that is not west of where the edge meets the
-- height of the row
product_below : (a b step : ℕ) → 1 ≤ step → a < b → a * step < b * step
product_below a b step some h = grind arith

only_by : (column west : ℕ) → nat_lt column west ≡ false → (west < column → nat_lt west west ≡ true)
    → (west < column) ⊎ (column ≤ west) → (column < west) ⊎ (west ≤ column) → column ≡ west
only_by column west low high (inl h) l =
    let none = nat_lt_self west in
    let some = high h in
    absurd cc
only_by column west low high (inr h) (inl l) =
    let below = lt-ltb column west l in
    absurd cc
only_by column west low high (inr h) (inr l) = omega arith

pub only_west : (row : Row) (edge : Edge) (step west : ℕ) → 1 ≤ step → StepsApart row edge step
    → ((column : ℕ) → column < row.cols
    → nat_lt column west ≡ meets_east (column_centre row column) edge)
    → (column : ℕ) → column < row.cols
    → on_edge (column_centre row column) edge ≡ true
    → column ≡ west
unfolding on_edge
only_west row edge step west some steps is column within on =
    let at = column_centre row column in
    let here = steps.on column (right (in_box at edge) (on_line at edge) on) in
    only_by column west
    (is column within ∙ steps.meets column ∙ ap (int_lt (pos (column * step))) (sym here)
    ∙ nat_lt_self (column * step))
    (λ less. is west (omega arith) ∙ steps.meets west
    ∙ ap (int_lt (pos (west * step))) (sym here)
    ∙ lt-ltb (west * step) (column * step) (product_below west column step some less))
    (cases_lt west column) (cases_lt column west)

pub some_step : (row : Row) (edge : Edge) → 1 ≤ row.spacing → edge.start.y ≢ edge.end.y
    → 1 ≤ row.spacing * unsigned_abs (edge.start.y -ℤ edge.end.y)
some_step row edge some level =
    let rise : 1 ≤ unsigned_abs (edge.start.y -ℤ edge.end.y) = omega (arith, ints) in
    mul-le-mul {n₁ = 1} {m₁ = 1} {n₂ = row.spacing}
    {m₂ = unsigned_abs (edge.start.y -ℤ edge.end.y)} some rise
