-- Rows measured one after another.
use Rattle.std.proofs.Common.{◌≡◌, ℕ, zero, suc, ◌+◌, ◌<◌, ℤ, List, [], ◌∷◌, ◌++◌, append_assoc}
use Rattle.std.proofs.Common.{length, map, All}
use Rattle.std.proofs.Common.{take, Option, Some, None, refl, sym, ap, ◌∙◌, arith, add-one}
use Rattle.std.specs.Prelude.{slice_get}
use Rattle.std.proofs.lemmas.List.{length-map}
use Rattle.ldp_series.specs.declared.list.Lists.{Lists}
use Rattle.ldp_cells.specs.declared.cell.Cell.{Cell}
use Rattle.ldp_distortion.specs.Distortion.{cell_results, design_results, joined, distortion}
use Rattle.ldp_distortion.specs.Distortion.{distortion_in, distortions}
use Rattle.ldp_distortion.specs.Prepared.{PreparedCells, distortions_from, distortions_of}
use Rattle.ldp_distortion.specs.declared.inputs.Inputs.{Inputs}
use Rattle.ldp_table.specs.declared.row.Row.{Row}
use Rattle.ldp_table.specs.Rows.{IsOver, IsRow, rows_of}

abbrev pub made_row : Cell → ℤ → Row
made_row cell z = record { cell = cell; distortion = z }

pub one_row : (row : Row) → IsRow row → All IsRow (row ∷ [])
one_row row h zero d k = h
one_row row h (suc i) d k = absurd (omega arith)

-- the row of a cell, where the design is defined there
abbrev pub row_at : Cell → Option ℤ → List Row
row_at cell None = []
row_at cell (Some z) = record { cell = cell; distortion = z } ∷ []

row_first : (cell : Cell) (o : Option ℤ) (cells : List Cell) (found : List (Option ℤ))
    → rows_of (cell ∷ cells) (o ∷ found) ≡ row_at cell o ++ rows_of cells found
row_first cell None cells found = refl
row_first cell (Some z) cells found = refl

row_last : (cell : Cell) (o : Option ℤ) → rows_of (cell ∷ []) (o ∷ []) ≡ row_at cell o
row_last cell None = refl
row_last cell (Some z) = refl

inside : {A : Type 0} (x y : A) → Some x ≡ Some y → x ≡ y
inside x y e = cc

rows_suc : (cells : List Cell) (found : List (Option ℤ)) (i : ℕ) (cell : Cell) (o : Option ℤ)
    → slice_get cells i ≡ Some cell → slice_get found i ≡ Some o
    → rows_of (take (suc i) cells) (take (suc i) found)
    ≡ rows_of (take i cells) (take i found) ++ row_at cell o
rows_suc [] found i cell o h k = absurd cc
rows_suc (c ∷ cs) [] i cell o h k = absurd cc
rows_suc (c ∷ cs) (d ∷ ds) zero cell o h k =
    row_last c d ∙ (ap (λ (x : Cell). row_at x d) (inside c cell h)
    ∙ ap (row_at cell) (inside d o k))
rows_suc (c ∷ cs) (d ∷ ds) (suc i) cell o h k =
    row_first c d (take (suc i) cs) (take (suc i) ds)
    ∙ (ap (λ rows. row_at c d ++ rows) (rows_suc cs ds i cell o h k)
    ∙ (sym (append_assoc (row_at c d) (rows_of (take i cs) (take i ds)) (row_at cell o))
    ∙ ap (λ rows. rows ++ row_at cell o) (sym (row_first c d (take i cs) (take i ds)))))

pub rows_more : (cells : List Cell) (found : List (Option ℤ)) (i : ℕ) (cell : Cell) (o : Option ℤ)
    → slice_get cells i ≡ Some cell → slice_get found i ≡ Some o
    → rows_of (take (i + 1) cells) (take (i + 1) found)
    ≡ rows_of (take i cells) (take i found) ++ row_at cell o
rows_more cells found i cell o h k =
    ap (λ n. rows_of (take n cells) (take n found)) (add-one i) ∙ rows_suc cells found i cell o h k

pub cell_at : (cells : List Cell) (i : ℕ) → i < length cells
    → (cell : Cell) × (slice_get cells i ≡ Some cell)
cell_at [] i h = absurd (omega arith)
cell_at (c ∷ cs) zero h = (c, refl)
cell_at (c ∷ cs) (suc i) h = cell_at cs i (omega arith)

-- what is found at prepared cells is the distortion at these cells
at_cells : (lists : Lists) (at : Inputs) (cells : List Cell)
    → map (joined lists (design_results lists.design at)) (map (cell_results lists.cell) cells)
    ≡ map (distortion lists at) cells
unfolding distortion distortion_in
at_cells lists at [] = refl
at_cells lists at (c ∷ cs) =
    ap (λ ds. joined lists (design_results lists.design at) (cell_results lists.cell c) ∷ ds)
    (at_cells lists at cs)

pub distortions_are : (p : PreparedCells) (at : Inputs) (cells : List Cell) → IsOver p cells
    → distortions_of p at ≡ distortions p.lists at cells
unfolding distortions_of
distortions_are p at cells e =
    ap (λ (x : PreparedCells). distortions_from x (design_results x.lists.design at)) e
    ∙ at_cells p.lists at cells

pub distortion_count : (p : PreparedCells) (at : Inputs)
    → length (distortions_of p at) ≡ length p.results
unfolding distortions_of
distortion_count p at =
    length-map p.results (joined p.lists (design_results p.lists.design at))

pub result_count : (p : PreparedCells) (cells : List Cell) → IsOver p cells
    → length p.results ≡ length cells
result_count p cells e =
    ap (λ (x : PreparedCells). length x.results) e ∙ length-map cells (cell_results p.lists.cell)
