-- The places of a grid, one after the other.
use Rattle.std.proofs.Common.{◌≡◌, ℕ, suc, ◌+◌, ◌-◌, ◌*◌, ◌<◌, ◌≤◌, Bool, true, false}
use Rattle.std.proofs.Common.{List, [], ◌∷◌, ◌++◌, length, filter, filter_map, Option, Some, None}
use Rattle.std.proofs.Common.{ℤ}
use Rattle.std.proofs.Common.{nat_lt, Ok, Err, if◌then◌else◌}
use Rattle.std.proofs.Common.{refl, ap, sym, ◌∙◌, arith, append_assoc, append-nil}
use Rattle.std.specs.List.{cons_option}
use Rattle.std.proofs.lemmas.Bool.{lt-ltb, le-leb, lt-leb}
use Rattle.std.proofs.lemmas.Nat.{div-mul-add, mod-mul-add, rows}
use Rattle.ldp_heights.specs.Grid.{HeightGrid, place_height}
use Rattle.ldp_zone.specs.declared.point.Point.{Point}
use Rattle.ldp_cells.specs.Cells.{centre, cell_with, cell_in, is_gap_in, places, cell_at, is_gap}
use Rattle.ldp_cells.specs.Cells.{cells_among, gaps_among, cells_where, CellList}
use Rattle.ldp_cells.specs.Tallies.{Tally, places_from, cells_from, gaps_from, IsTally}
use Rattle.ldp_cells.specs.Tallies.{with_height, with_place}
use Rattle.ldp_cells.specs.declared.cell.Cell.{Cell}
use Rattle.ldp_cells.specs.declared.fault.CellsFault.TheVariants.{TooManyCells}

places_next : (place count : ℕ) → place < count
    → places_from place count ≡ place ∷ places_from (place + 1) count
places_next place count h =
    let one : count - place ≡ suc (count - (place + 1)) = omega arith in
    rw one refl

places_end : (count : ℕ) → places_from count count ≡ []
places_end count = let none : count - count ≡ 0 = omega arith in rw none refl

places_all : (grid : HeightGrid) → places_from 0 (grid.cols * grid.rows) ≡ places grid
unfolding places
places_all grid =
    let all : grid.cols * grid.rows - 0 ≡ grid.cols * grid.rows = omega arith in
    rw all refl

-- the row and the column of a place
cell_here : (test : Point → Bool) (grid : HeightGrid) (row col : ℕ) → col < grid.cols
    → cell_at test grid (row * grid.cols + col) ≡ cell_in test grid row col
unfolding cell_at
cell_here test grid row col h =
    rw (div-mul-add row grid.cols col h, mod-mul-add row grid.cols col h) refl

gap_here : (test : Point → Bool) (grid : HeightGrid) (row col : ℕ) → col < grid.cols
    → is_gap test grid (row * grid.cols + col) ≡ is_gap_in test grid row col
unfolding is_gap
gap_here test grid row col h =
    rw (div-mul-add row grid.cols col h, mod-mul-add row grid.cols col h) refl

place_within : (rows cols row col : ℕ) → row < rows → col < cols → row * cols + col < cols * rows
place_within rows cols row col h k = grind (arith, rows)

cells_next : (test : Point → Bool) (grid : HeightGrid) (place : ℕ) (cell : Option Cell)
    → place < grid.cols * grid.rows
    → cell_at test grid place ≡ cell
    → cells_from test grid place ≡ cons_option cell (cells_from test grid (place + 1))
cells_next test grid place cell h e = rw (places_next place (grid.cols * grid.rows) h, e) refl

gap_next : (test : Point → Bool) (grid : HeightGrid) (place : ℕ) → place < grid.cols * grid.rows
    → is_gap test grid place ≡ true
    → gaps_from test grid place ≡ suc (gaps_from test grid (place + 1))
gap_next test grid place h e = rw (places_next place (grid.cols * grid.rows) h, e) refl

no_gap_next : (test : Point → Bool) (grid : HeightGrid) (place : ℕ) → place < grid.cols * grid.rows
    → is_gap test grid place ≡ false
    → gaps_from test grid place ≡ gaps_from test grid (place + 1)
no_gap_next test grid place h e = rw (places_next place (grid.cols * grid.rows) h, e) refl

-- A place outside of the region.

skipped : (test : Point → Bool) (grid : HeightGrid) (row col : ℕ)
    → test (centre grid row col) ≡ false
    → cell_in test grid row col ≡ None
unfolding cell_in
skipped test grid row col out = rw out refl

skipped_gap : (test : Point → Bool) (grid : HeightGrid) (row col : ℕ)
    → test (centre grid row col) ≡ false
    → is_gap_in test grid row col ≡ false
unfolding is_gap_in
skipped_gap test grid row col out = rw out refl

pub place_skipped : (test : Point → Bool) (grid : HeightGrid) (row col : ℕ) (tally : Tally)
    → row < grid.rows
    → col < grid.cols
    → test (centre grid row col) ≡ false
    → IsTally test grid (row * grid.cols + col) tally
    → IsTally test grid (row * grid.cols + col + 1) tally
place_skipped test grid row col tally h k out before =
    let place = row * grid.cols + col in
    let within = place_within grid.rows grid.cols row col h k in
    let cells = cells_next test grid place None within
    (cell_here test grid row col k ∙ skipped test grid row col out) in
    let gaps = no_gap_next test grid place within
    (gap_here test grid row col k ∙ skipped_gap test grid row col out) in
    record {
      count = ap (λ (rest : List Cell). tally.count + length rest) (sym cells) ∙ before.count;
      missing = omega (arith, gaps, before.missing);
      cells = λ few. ap (λ (rest : List Cell). tally.cells ++ rest) (sym cells) ∙ before.cells few;
    }

-- A place of the region without a height.

missed : (test : Point → Bool) (grid : HeightGrid) (row col : ℕ)
    → test (centre grid row col) ≡ true
    → place_height grid row col ≡ None
    → cell_in test grid row col ≡ None
unfolding cell_in
missed test grid row col inside none = rw (inside, none) refl

missed_gap : (test : Point → Bool) (grid : HeightGrid) (row col : ℕ)
    → test (centre grid row col) ≡ true
    → place_height grid row col ≡ None
    → is_gap_in test grid row col ≡ true
unfolding is_gap_in
missed_gap test grid row col inside none = rw (inside, none) refl

-- A place of the region with a height.

found : (test : Point → Bool) (grid : HeightGrid) (row col : ℕ) (mm : ℤ)
    → test (centre grid row col) ≡ true
    → place_height grid row col ≡ Some mm
    → cell_in test grid row col ≡ Some (cell_with grid row col mm)
unfolding cell_in
found test grid row col mm inside some = rw (inside, some) refl

found_no_gap : (test : Point → Bool) (grid : HeightGrid) (row col : ℕ) (mm : ℤ)
    → test (centre grid row col) ≡ true
    → place_height grid row col ≡ Some mm
    → is_gap_in test grid row col ≡ false
unfolding is_gap_in
found_no_gap test grid row col mm inside some = rw (inside, some) refl

one_more : (count : ℕ) (cells rest all : List Cell) (cell : Cell)
    → (count ≤ 200_000 → cells ++ cell ∷ rest ≡ all)
    → count + 1 ≤ 200_000
    → (if nat_lt count 200_000 then cells ++ cell ∷ [] else cells) ++ rest ≡ all
one_more count cells rest all cell before few =
    rw (lt-ltb count 200_000 (omega arith))
    (append_assoc cells (cell ∷ []) rest ∙ before (omega arith))

taken_by : (test : Point → Bool) (grid : HeightGrid) (row col : ℕ) (tally : Tally)
    (height : Option ℤ) → row < grid.rows
    → col < grid.cols
    → test (centre grid row col) ≡ true
    → place_height grid row col ≡ height
    → IsTally test grid (row * grid.cols + col) tally
    → IsTally test grid (row * grid.cols + col + 1) (with_height grid row col height tally)
taken_by test grid row col tally None h k inside e before =
    let place = row * grid.cols + col in
    let within = place_within grid.rows grid.cols row col h k in
    let cells = cells_next test grid place None within
    (cell_here test grid row col k ∙ missed test grid row col inside e) in
    let gaps = gap_next test grid place within
    (gap_here test grid row col k ∙ missed_gap test grid row col inside e) in
    record {
      count = ap (λ (rest : List Cell). tally.count + length rest) (sym cells) ∙ before.count;
      missing = omega (arith, gaps, before.missing);
      cells = λ few. ap (λ (rest : List Cell). tally.cells ++ rest) (sym cells) ∙ before.cells few;
    }
taken_by test grid row col tally (Some mm) h k inside e before =
    let place = row * grid.cols + col in
    let cell = cell_with grid row col mm in
    let within = place_within grid.rows grid.cols row col h k in
    let cells = cells_next test grid place (Some cell) within
    (cell_here test grid row col k ∙ found test grid row col mm inside e) in
    let gaps = no_gap_next test grid place within
    (gap_here test grid row col k ∙ found_no_gap test grid row col mm inside e) in
    record {
      count =
          let more = ap (λ (list : List Cell). length list) cells in
          omega (arith, more, before.count);
      missing = omega (arith, gaps, before.missing);
      cells = one_more tally.count tally.cells (cells_from test grid (place + 1))
          (cells_among test grid) cell
          (λ few. ap (λ (list : List Cell). tally.cells ++ list) (sym cells) ∙ before.cells few);
    }

pub place_taken : (test : Point → Bool) (grid : HeightGrid) (row col : ℕ) (tally : Tally)
    → row < grid.rows
    → col < grid.cols
    → test (centre grid row col) ≡ true
    → IsTally test grid (row * grid.cols + col) tally
    → IsTally test grid (row * grid.cols + col + 1) (with_place grid row col tally)
place_taken test grid row col tally h k inside before =
    taken_by test grid row col tally (place_height grid row col) h k inside refl before

-- Before the first place, and behind the last.

pub nothing_found : (test : Point → Bool) (grid : HeightGrid)
    → IsTally test grid (0 * grid.cols) record { cells = []; count = 0; missing = 0 }
nothing_found test grid =
    let zero : 0 * grid.cols ≡ 0 = omega arith in
    let cells = ap (λ (list : List ℕ). filter_map (cell_at test grid) list) (places_all grid) in
    let count = ap (λ (list : List Cell). length list) cells in
    let gaps = ap (λ (list : List ℕ). length (filter (is_gap test grid) list)) (places_all grid) in
    rw zero (record {
      count = omega (arith, count);
      missing = omega (arith, gaps);
      cells = λ few. cells;
    })

none_left : (test : Point → Bool) (grid : HeightGrid)
    → cells_from test grid (grid.cols * grid.rows) ≡ []
none_left test grid =
    ap (λ (list : List ℕ). filter_map (cell_at test grid) list) (places_end (grid.cols * grid.rows))

no_gaps_left : (test : Point → Bool) (grid : HeightGrid)
    → gaps_from test grid (grid.cols * grid.rows) ≡ 0
no_gaps_left test grid =
    ap (λ (list : List ℕ). length (filter (is_gap test grid) list))
    (places_end (grid.cols * grid.rows))

all_counted : (test : Point → Bool) (grid : HeightGrid) (tally : Tally)
    → IsTally test grid (grid.cols * grid.rows) tally
    → tally.count ≡ length (cells_among test grid)
all_counted test grid tally all =
    let none = ap (λ (list : List Cell). length list) (none_left test grid) in
    omega (arith, none, all.count)

pub too_many : (test : Point → Bool) (grid : HeightGrid) (tally : Tally)
    → IsTally test grid (grid.cols * grid.rows) tally
    → 200_000 < tally.count
    → Err (TooManyCells tally.count) ≡ cells_where test grid
unfolding cells_where
too_many test grid tally all many =
    let count = all_counted test grid tally all in
    rw (lt-leb (length (cells_among test grid)) 200_000 (omega arith), count) refl

pub all_found : (test : Point → Bool) (grid : HeightGrid) (tally : Tally) (list : CellList)
    → IsTally test grid (grid.cols * grid.rows) tally
    → tally.count ≤ 200_000
    → list.cells ≡ tally.cells
    → list.missing ≡ tally.missing
    → Ok list ≡ cells_where test grid
unfolding cells_where
all_found test grid tally list all few same_cells same_missing =
    let count = all_counted test grid tally all in
    let cells = same_cells ∙ sym (append-nil tally.cells)
    ∙ ap (λ (rest : List Cell). tally.cells ++ rest) (sym (none_left test grid))
    ∙ all.cells few in
    let missing : list.missing ≡ gaps_among test grid =
    omega (arith, same_missing, no_gaps_left test grid, all.missing) in
    let with_cells : List Cell → CellList = λ m. record { cells = m; missing = list.missing } in
    let with_missing : ℕ → CellList = λ n. record {
      cells = cells_among test grid;
      missing = n;
    } in
    rw (le-leb (length (cells_among test grid)) 200_000 (omega arith))
    (ap Ok (ap with_cells cells ∙ ap with_missing missing))
