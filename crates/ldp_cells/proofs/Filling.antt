-- What one edge more does to a row.
use Rattle.std.proofs.Common.{◌≡◌, ℕ, ◌+◌, ◌*◌, ◌<◌, ◌≤◌, Bool, true, false, cond, not, ◌&&◌, ◌||◌}
use Rattle.std.proofs.Common.{nat_lt, nat_le, ℤ, pos, ◌+ℤ◌, ◌-ℤ◌, int_lt, int_le}
use Rattle.std.proofs.Common.{List, [], ◌∷◌, ◌++◌, length, take, slice_index_or, count_by, max}
use Rattle.std.proofs.Common.{arith, refl, ap, sym, ◌∙◌}
use Rattle.std.proofs.Common.{◌%◌, ◌==◌, IsPermutation}
use Rattle.std.specs.Int.{int_min, int_max}
use Rattle.std.specs.List.{list_any}
use Rattle.std.proofs.lemmas.Bool.Decides.{nat_tests}
use Rattle.std.proofs.lemmas.Int.{ints}
use Rattle.std.proofs.lemmas.List.Sums.{sum_by_push, sum_by_more}
use Rattle.std.proofs.lemmas.List.Folds.{list_any_more}
use Rattle.std.proofs.lemmas.List.Sorted.{sum_by-IsPermutation}
use Rattle.std.proofs.Math.IntN.{zero-*ℤ, *ℤ-zero}
use Rattle.ldp_zone.specs.Inside.{edge_east, point_east, differ, spans, meets_east, crosses}
use Rattle.ldp_zone.specs.Inside.{between}
use Rattle.ldp_zone.specs.Inside.{in_box, on_line, on_edge, inside_of}
use Rattle.ldp_zone.specs.declared.point.Point.{Point}
use Rattle.ldp_zone.specs.declared.edge.Edge.{Edge}
use Rattle.ldp_cells.specs.Rows.{column_centre, crossings_beyond, Filling, TakesEdge, HoldsEdges}
use Rattle.ldp_cells.specs.Rows.{AreMarks}
use Rattle.ldp_cells.specs.declared.row.Row.{Row}

or_false : (b : Bool) → b ≡ (b || false)
or_false true = refl
or_false false = refl

and_true : (a : Bool) → (a && true) ≡ a
and_true true = refl
and_true false = refl

no_and : (a b : Bool) → b ≡ false → (a && b) ≡ false
no_and true b e = e
no_and false b e = refl

not_crossed : (at : Point) (edge : Edge) → spans at edge ≡ false → crosses at edge ≡ false
unfolding crosses
not_crossed at edge e = rw e refl

crossed : (at : Point) (edge : Edge) → spans at edge ≡ true → crosses at edge ≡ meets_east at edge
unfolding crosses
crossed at edge e = rw e refl

-- An edge away from the row.

aside : (y a b : ℤ) → between a b y ≡ false → differ (int_lt y a) (int_lt y b) ≡ false
aside y a b h = grind (arith, ints)

off_edge : (at : Point) (edge : Edge) → between edge.start.y edge.end.y at.y ≡ false
    → on_edge at edge ≡ false
unfolding on_edge in_box
off_edge at edge h =
    rw (no_and (between edge.start.x edge.end.x at.x) (between edge.start.y edge.end.y at.y) h) refl

pub edge_aside : (row : Row) (edge : Edge) (old : Filling)
    → between edge.start.y edge.end.y row.y ≡ false
    → TakesEdge row edge old old
edge_aside row edge old h = record {
  each = refl;
  crossings = λ column within.
      rw (not_crossed (column_centre row column) edge (aside row.y edge.start.y edge.end.y h))
      (omega arith);
  marks = λ column within.
      rw (off_edge (column_centre row column) edge h)
      (or_false (slice_index_or old.marks column false));
}

-- An edge along the row.

differ_self : (a : Bool) → differ a a ≡ false
differ_self true = refl
differ_self false = refl

not_west : (c first : ℕ) (w x : ℤ) (n : ℕ) → nat_lt c first ≡ int_lt (pos n) (w -ℤ x)
    → nat_le first c ≡ int_le w (x +ℤ pos n)
not_west c first w x n e =
    let both : nat_le first c ≡ not (nat_lt c first) = grind (arith, nat_tests) in
    let tests : not (int_lt (pos n) (w -ℤ x)) ≡ int_le w (x +ℤ pos n) = grind (arith, ints) in
    both ∙ ap not e ∙ tests

not_east : (e x : ℤ) (n : ℕ) → int_lt (pos n) ((e -ℤ x) +ℤ pos 1) ≡ int_le (x +ℤ pos n) e
not_east e x n = grind (arith, ints)

box_by : (a b n : ℤ) → (int_le (int_min a b) n && int_le n (int_max a b)) ≡ between a b n
box_by a b n = grind (arith, ints)

level_line : (at : Point) (edge : Edge) → edge.start.y ≡ at.y → edge.end.y ≡ at.y
    → on_line at edge ≡ true
unfolding on_line edge_east point_east
level_line at edge start end =
    let up : at.y -ℤ edge.start.y ≡ pos 0 = omega (arith, ints) in
    let rise : edge.end.y -ℤ edge.start.y ≡ pos 0 = omega (arith, ints) in
    rw (up, rise, zero-*ℤ (edge.end.x -ℤ edge.start.x), *ℤ-zero (at.x -ℤ edge.start.x)) refl

level_height : (a b y : ℤ) → a ≡ y → b ≡ y → between a b y ≡ true
level_height a b y e f = grind (arith, ints)

level_on : (at : Point) (edge : Edge) → edge.start.y ≡ at.y → edge.end.y ≡ at.y
    → on_edge at edge ≡ between edge.start.x edge.end.x at.x
unfolding on_edge in_box
level_on at edge start end =
    rw (level_line at edge start end, level_height edge.start.y edge.end.y at.y start end)
    (and_true (between edge.start.x edge.end.x at.x && true)
    ∙ and_true (between edge.start.x edge.end.x at.x))

-- the marks of a level edge's columns
pub edge_along : (row : Row) (edge : Edge) (old new : Filling) (first end : ℕ)
    → edge.start.y ≡ row.y → edge.end.y ≡ row.y
    → ((column : ℕ) → column < row.cols → nat_lt column first
    ≡ int_lt (pos (column * row.spacing)) (int_min edge.start.x edge.end.x -ℤ row.x))
    → ((column : ℕ) → column < row.cols → nat_lt column end
    ≡ int_lt (pos (column * row.spacing)) ((int_max edge.start.x edge.end.x -ℤ row.x) +ℤ pos 1))
    → length new.marks ≡ length old.marks
    → new.crossings ≡ old.crossings
    → ((column : ℕ) → column < row.cols → slice_index_or new.marks column false
    ≡ (slice_index_or old.marks column false || (nat_le first column && nat_lt column end)))
    → TakesEdge row edge old new
edge_along row edge old new first end start_y end_y west east each same marks = record {
  each = each;
  crossings = λ column within.
      let level : spans (column_centre row column) edge ≡ false =
      rw (start_y, end_y) (differ_self (int_lt row.y row.y)) in
      rw (not_crossed (column_centre row column) edge level, same) (omega arith);
  marks = λ column within.
      let n = column * row.spacing in
      let at = column_centre row column in
      let a = edge.start.x in
      let b = edge.end.x in
      let before = not_west column first (int_min a b) row.x n (west column within) in
      let behind = east column within ∙ not_east (int_max a b) row.x n in
      marks column within
      ∙ ap (λ t. slice_index_or old.marks column false || (t && nat_lt column end)) before
      ∙ ap (λ t. slice_index_or old.marks column false
      || (int_le (int_min a b) (row.x +ℤ pos n) && t)) behind
      ∙ ap (λ t. slice_index_or old.marks column false || t)
      (box_by a b (row.x +ℤ pos n) ∙ sym (level_on at edge start_y end_y));
}

-- An edge that rises or falls.

push_by : (column west : ℕ) (crossings : List ℕ) (b : Bool) → nat_lt column west ≡ b
    → crossings_beyond column (crossings ++ west ∷ [])
    ≡ crossings_beyond column crossings + cond b 1 0
push_by column west crossings b e =
    sum_by_push (λ k. cond (nat_lt column k) 1 0) crossings west
    ∙ ap (λ t. crossings_beyond column crossings + cond t 1 0) e

pub edge_crossing : (row : Row) (edge : Edge) (west : ℕ) (old : List ℕ)
    → ((column : ℕ) → column < row.cols
    → nat_lt column west ≡ meets_east (column_centre row column) edge)
    → spans (column_centre row 0) edge ≡ true
    → (column : ℕ) → column < row.cols
    → crossings_beyond column (old ++ west ∷ [])
    ≡ crossings_beyond column old + cond (crosses (column_centre row column) edge) 1 0
edge_crossing row edge west old is over column within =
    let at = column_centre row column in
    push_by column west old (crosses at edge) (is column within ∙ sym (crossed at edge over))

pub edge_not_crossing : (row : Row) (edge : Edge) (old : List ℕ)
    → spans (column_centre row 0) edge ≡ false
    → (column : ℕ) → column < row.cols
    → crossings_beyond column old
    ≡ crossings_beyond column old + cond (crosses (column_centre row column) edge) 1 0
edge_not_crossing row edge old over column within =
    rw (not_crossed (column_centre row column) edge over) (omega arith)

-- an edge whose crossing and whose marks were taken
pub edge_taken : (row : Row) (edge : Edge) (old mid new : Filling) → mid.marks ≡ old.marks
    → ((column : ℕ) → column < row.cols → crossings_beyond column mid.crossings
    ≡ crossings_beyond column old.crossings
    + cond (crosses (column_centre row column) edge) 1 0)
    → length new.marks ≡ length mid.marks
    → new.crossings ≡ mid.crossings
    → ((column : ℕ) → column < row.cols → slice_index_or new.marks column false
    ≡ (slice_index_or mid.marks column false || on_edge (column_centre row column) edge))
    → TakesEdge row edge old new
edge_taken row edge old mid new kept counted each same marks = record {
  each = each ∙ ap length kept;
  crossings = λ column within.
      ap (crossings_beyond column) same ∙ counted column within;
  marks = λ column within.
      marks column within
      ∙ ap (λ (m : List Bool). slice_index_or m column false
      || on_edge (column_centre row column) edge) kept;
}

-- the columns before a distance, with another step and distance that are the same
pub same_before : (cols first step spacing : ℕ) (d e : ℤ) → step ≡ spacing → d ≡ e
    → ((column : ℕ) → column < cols → nat_lt column first ≡ int_lt (pos (column * step)) d)
    → (column : ℕ) → column < cols → nat_lt column first ≡ int_lt (pos (column * spacing)) e
same_before cols first step spacing d e same far before column within =
    before column within
    ∙ ap (λ n. int_lt (pos (column * n)) d) same
    ∙ ap (int_lt (pos (column * spacing))) far

-- All edges.

pub no_edges : (row : Row) (filling : Filling) → length filling.marks ≡ row.cols
    → filling.crossings ≡ []
    → ((column : ℕ) → column < row.cols → slice_index_or filling.marks column false ≡ false)
    → HoldsEdges row [] filling
no_edges row filling each none unmarked = record {
  each = each;
  crossings = λ column within. rw none refl;
  marks = unmarked;
}

pub one_edge : (row : Row) (edges : List Edge) (index : ℕ) (edge : Edge) (old new : Filling)
    → index < length edges
    → edge ≡ slice_index_or edges index edge
    → HoldsEdges row (take index edges) old
    → TakesEdge row edge old new
    → HoldsEdges row (take (index + 1) edges) new
one_edge row edges index edge old new h is held taken = record {
  each = taken.each ∙ held.each;
  crossings = λ column within.
      let at = column_centre row column in
      let f : Edge → ℕ = λ e. cond (crosses at e) 1 0 in
      let more = sum_by_more f edges index edge h in
      let here = ap f is in
      let before = held.crossings column within in
      let step = taken.crossings column within in
      omega (arith, more, here, before, step);
  marks = λ column within.
      let at = column_centre row column in
      taken.marks column within
      ∙ ap (λ b. b || on_edge at edge) (held.marks column within)
      ∙ ap (λ (e : Edge). list_any (on_edge at) (take index edges) || on_edge at e) is
      ∙ sym (list_any_more (on_edge at) edges index edge h);
}

-- so far as columns were marked, they are those from one on below another
pub marked_columns : (old new : Bool) (first end last column : ℕ) → first ≤ last → end ≤ last
    → last ≤ max first end
    → new ≡ (old || (nat_le first column && nat_lt column last))
    → new ≡ (old || (nat_le first column && nat_lt column end))
marked_columns old new first end last column low high most e =
    let same : (nat_le first column && nat_lt column last)
    ≡ (nat_le first column && nat_lt column end) = grind (arith, nat_tests) in
    e ∙ ap (λ t. old || t) same

-- the row is filled
pub filled : (row : Row) (edges : List Edge) (held : Filling) (sorted : List ℕ) (marks : List Bool)
    → HoldsEdges row edges held
    → IsPermutation held.crossings sorted
    → length marks ≡ length held.marks
    → ((column : ℕ) → column < length held.marks → slice_index_or marks column false
    ≡ (slice_index_or held.marks column false || (crossings_beyond column sorted % 2 == 1)))
    → AreMarks (inside_of edges) row marks
unfolding inside_of
filled row edges held sorted marks holds moved each swept = record {
  each = each ∙ holds.each;
  tests = λ column within.
      let at = column_centre row column in
      let f : ℕ → ℕ = λ k. cond (nat_lt column k) 1 0 in
      let count : crossings_beyond column sorted ≡ count_by (crosses at) edges =
      sum_by-IsPermutation f held.crossings sorted moved ∙ holds.crossings column within in
      swept column (omega (arith, holds.each))
      ∙ ap (λ b. b || (crossings_beyond column sorted % 2 == 1)) (holds.marks column within)
      ∙ ap (λ n. list_any (on_edge at) edges || (n % 2 == 1)) count;
}
