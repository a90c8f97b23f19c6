-- Hulls that are put together number by number, and looked up as a whole.
use Rattle.std.proofs.Common.{◌≡◌, ◌<◌, ◌≤◌, ◌+◌, ℕ, ℤ, pos, get_or, List, [], ◌∷◌, ◌++◌, length}
use Rattle.std.proofs.Common.{take, drop, arith, sym, ap, subst, ◌∙◌, ◌⊎◌, inl, inr}
use Rattle.std.specs.Int.Signed.{≤ℤ_refl}
use Rattle.std.proofs.lemmas.Bool.{cases_lt}
use Rattle.std.proofs.lemmas.List.{length-append, length-take-le, length-drop}
use Rattle.std.proofs.lemmas.List.Elements.{All-get_or}
use Rattle.std.proofs.lemmas.Option.{same_Some, slice_get_within, slice_get-get_or, slice_get_read}
use Rattle.std.proofs.lemmas.Option.{get_or_from_slice_get}
use Rattle.std.specs.Option.{ForSome}
use Rattle.std.specs.Prelude.{Option, None, Some, slice_get, IfSome}
use Rattle.ldp_range.specs.Range.{LiesIn, twice, pair_hull}
use Rattle.ldp_range.proofs.Ends.{hull-holds}
use Rattle.ldp_distortion.specs.Rows.{AreRows, IsRow}
use Rattle.ldp_sweep.specs.declared.stretch.Stretch.{Stretch}
use Rattle.ldp_distortion.specs.Prepared.{PreparedCells}
use Rattle.ldp_sweep.specs.Cut.{IsCut}
use Rattle.ldp_stretch.specs.declared.stretches.Stretches.{Stretches}
use Rattle.ldp_stretch.specs.Hulls.{width_of, Rows, IsNumberAt, LiesAt, HoldsColumn, IsHull}
use Rattle.ldp_stretch.specs.Hulls.{AreHulls, HoldsRows, IsLonger}
use Rattle.ldp_stretch.proofs.Lists.{get_front, get_last, get_take, get_drop, pairwise_at}

own_number : (n : ℤ) → LiesIn n (twice n)
own_number n = record { low = ≤ℤ_refl n; high = ≤ℤ_refl n }

-- one cell alone, and one more
pub column_first : (rows : Rows) (from place : ℕ) (number : ℤ) (range : ℤ × ℤ)
    → IsNumberAt rows from place number → range ≡ twice number
    → HoldsColumn rows from (from + 1) place range
column_first rows from place number range is same cell low high =
    let here : from ≡ cell = omega arith in
    subst (λ k. LiesAt rows k place range) here
    (record {
      number = number;
      is = is;
      lies = subst (LiesIn number) (sym same) (own_number number);
    })

pub column_more : (rows : Rows) (from place cell : ℕ) (number : ℤ) (old new : ℤ × ℤ)
    → HoldsColumn rows from cell place old → IsNumberAt rows cell place number
    → new ≡ pair_hull old (twice number) → HoldsColumn rows from (cell + 1) place new
column_more rows from place cell number old new known is whole k low high =
    by_place (cases_lt k cell)
  where
    by_place : (k < cell) ⊎ (cell ≤ k) → LiesAt rows k place new
    by_place (inl before) =
        let found = known k low before in
        record {
          number = found.number;
          is = found.is;
          lies = subst (LiesIn found.number) (sym whole)
              (hull-holds found.number old (twice number) (inl found.lies));
        }
    by_place (inr after) =
        let here : cell ≡ k = omega arith in
        subst (λ k. LiesAt rows k place new) here
        (record {
          number = number;
          is = is;
          lies = subst (LiesIn number) (sym whole)
              (hull-holds number old (twice number) (inr (own_number number)));
        })

-- one more range of a hull
pub hull_more : (rows : Rows) (node : Stretch) (old new : List (ℤ × ℤ)) (begin place : ℕ)
    (range : ℤ × ℤ) → new ≡ old ++ range ∷ [] → length old ≡ begin + place
    → ((k : ℕ) (r : ℤ × ℤ) → k < place → slice_get old (begin + k) ≡ Some r
    → HoldsColumn rows node.from node.to k r)
    → HoldsColumn rows node.from node.to place range
    → (k : ℕ) (r : ℤ × ℤ) → k < place + 1 → slice_get new (begin + k) ≡ Some r
    → HoldsColumn rows node.from node.to k r
hull_more rows node old new begin place range pushed count known last k r h e =
    by_place (cases_lt k place)
  where
    whole : slice_get (old ++ range ∷ []) (begin + k) ≡ Some r
    whole = ap (λ (xs : List (ℤ × ℤ)). slice_get xs (begin + k)) (sym pushed) ∙ e

    by_place : (k < place) ⊎ (place ≤ k) → HoldsColumn rows node.from node.to k r
    by_place (inl before) =
        known k r before (sym (get_front old (range ∷ []) (begin + k) (omega arith)) ∙ whole)
    by_place (inr after) =
        let at : length old ≡ begin + k = omega arith in
        let here : place ≡ k = omega arith in
        let same : range ≡ r = same_Some range r
        (sym (get_last old range) ∙ ap (slice_get (old ++ range ∷ [])) at ∙ whole) in
        subst (λ (s : ℤ × ℤ). HoldsColumn rows node.from node.to k s) same
        (subst (λ n. HoldsColumn rows node.from node.to n range) here last)

pub longer_none : (xs : List (ℤ × ℤ)) → xs ++ [] ≡ xs → IsLonger xs xs
longer_none xs e = record { more = []; is = sym e }

pub longer_more : (a b c : List (ℤ × ℤ)) (range : ℤ × ℤ) → IsLonger a b → c ≡ b ++ range ∷ []
    → ((xs ys zs : List (ℤ × ℤ)) → (xs ++ ys) ++ zs ≡ xs ++ (ys ++ zs)) → IsLonger a c
longer_more a b c range longer pushed assoc = record {
  more = longer.more ++ range ∷ [];
  is = pushed ∙ ap (λ (xs : List (ℤ × ℤ)). xs ++ range ∷ []) longer.is
      ∙ assoc a longer.more (range ∷ []);
}

-- a hull stays one where more ranges come behind
hull_longer : (rows : Rows) (width : ℕ) (node : Stretch) (begin : ℕ) (old new : List (ℤ × ℤ))
    → IsLonger old new → IsHull rows width old node begin → IsHull rows width new node begin
hull_longer rows width node begin old new longer hull =
    record {
      some = hull.some;
      within = omega (arith, hull.within, ap length longer.is, length-append old longer.more);
      holds = λ place range h e. hull.holds place range h
          (sym (get_front old longer.more (begin + place) (omega (arith, hull.within)))
          ∙ ap (λ (xs : List (ℤ × ℤ)). slice_get xs (begin + place)) (sym longer.is) ∙ e);
    }

-- what is known of the hulls of the first nodes
abbrev pub AreEach : Rows → ℕ → List Stretch → List (Option ℕ) → List (ℤ × ℤ) → Type 0
AreEach rows width nodes begins ranges =
    (at : ℕ) (node : Stretch) (begin : ℕ) → slice_get nodes at ≡ Some node
    → slice_get begins at ≡ Some (Some begin) → IsHull rows width ranges node begin

-- one more node
pub hulls_more : (rows : Rows) (width : ℕ) (nodes : List Stretch) (old new : List (Option ℕ))
    (ranges longer : List (ℤ × ℤ)) (at : ℕ) (node : Stretch) (found : Option ℕ)
    → length old ≡ at → new ≡ old ++ found ∷ [] → slice_get nodes at ≡ Some node
    → IsLonger ranges longer → IfSome found (IsHull rows width longer node)
    → AreEach rows width nodes old ranges → AreEach rows width nodes new longer
hulls_more rows width nodes old new ranges longer at node found count pushed here more hull known k
    other begin e f =
    by_place (cases_lt k at)
  where
    whole : slice_get (old ++ found ∷ []) k ≡ Some (Some begin)
    whole = ap (λ (xs : List (Option ℕ)). slice_get xs k) (sym pushed) ∙ f

    within : k < length old + 1
    within =
        omega (
          arith,
          slice_get_within (old ++ found ∷ []) k (Some begin) whole,
          length-append old (found ∷ []),
        )

    by_place : (k < at) ⊎ (at ≤ k) → IsHull rows width longer other begin
    by_place (inl before) =
        hull_longer rows width other begin ranges longer more
        (known k other begin e (sym (get_front old (found ∷ []) k (omega arith)) ∙ whole))
    by_place (inr after) =
        let last : length old ≡ k = omega (arith, within) in
        let same : at ≡ k = omega (arith, within) in
        let is : found ≡ Some begin = same_Some found (Some begin)
        (sym (get_last old found) ∙ ap (slice_get (old ++ found ∷ [])) last ∙ whole) in
        let its : node ≡ other = same_Some node other (sym here ∙ ap (slice_get nodes) same ∙ e) in
        subst (λ (n : Stretch). IsHull rows width longer n begin) its
        (subst (λ (o : Option ℕ). IfSome o (IsHull rows width longer node)) is hull)

pub hulls_none : (rows : Rows) (width : ℕ) (nodes : List Stretch) (begins : List (Option ℕ))
    (ranges : List (ℤ × ℤ)) → begins ≡ [] → AreEach rows width nodes begins ranges
hulls_none rows width nodes begins ranges none at node begin e f =
    let no : ◌≡◌ {A = Option (Option ℕ)} None (Some (Some begin)) =
    ap (λ (xs : List (Option ℕ)). slice_get xs at) (sym none) ∙ f in
    cc

-- the results at a cell
row_at : (rows : Rows) (width cell : ℕ) (row : List ℤ) → AreRows width rows
    → slice_get rows cell ≡ Some (Some row) → IsRow width row
row_at rows width cell row full is =
    All-get_or (λ (found : Option (List ℤ)). ForSome found (IsRow width)) rows cell None
    (slice_get_within rows cell (Some row) is) full row
    (get_or_from_slice_get rows cell (Some row) None is)

same_row : (rows : Rows) (cell : ℕ) (row other : List ℤ) → slice_get rows cell ≡ Some (Some row)
    → slice_get rows cell ≡ Some (Some other) → row ≡ other
same_row rows cell row other e f =
    same_Some row other (same_Some (Some row) (Some other) (sym e ∙ f))

-- the hull of a node as a list
pub hull_holds : (rows : Rows) (width : ℕ) (ranges hull : List (ℤ × ℤ)) (node : Stretch) (begin : ℕ)
    → AreRows width rows → IsHull rows width ranges node begin
    → hull ≡ take width (drop begin ranges) → HoldsRows rows node hull
hull_holds rows width ranges hull node begin full is part cell low high =
    record {
      row = first.is.row;
      is = first.is.is;
      lies = pairwise_at LiesIn first.is.row hull (its.count ∙ sym count) each;
    }
  where
    count : length hull ≡ width
    count =
        ap length part
        ∙ length-take-le width (drop begin ranges)
        (omega (arith, is.within, length-drop begin ranges))

    at : (place : ℕ) (range : ℤ × ℤ) → place < width → slice_get hull place ≡ Some range
        → LiesAt rows cell place range
    at place range h e =
        is.holds place range h
        (sym (get_drop begin ranges place)
        ∙ get_take width (drop begin ranges) place range
        (ap (λ (xs : List (ℤ × ℤ)). slice_get xs place) (sym part) ∙ e))
        cell low high

    start : ℤ × ℤ
    start = get_or hull 0 (twice (pos 0))

    first : LiesAt rows cell 0 start
    first =
        at 0 start is.some
        (slice_get-get_or hull 0 (twice (pos 0)) (omega (arith, count, is.some)))

    its : IsRow width first.is.row
    its = row_at rows width cell first.is.row full first.is.is

    each : (i : ℕ) (number : ℤ) (range : ℤ × ℤ) → slice_get first.is.row i ≡ Some number
        → slice_get hull i ≡ Some range → LiesIn number range
    each i number range e f =
        let other = at i range (omega (arith, count, slice_get_within hull i range f)) f in
        let same : other.is.row ≡ first.is.row =
        same_row rows cell other.is.row first.is.row other.is.is first.is.is in
        let value : other.number ≡ number = same_Some other.number number
        (sym other.is.here ∙ ap (λ (xs : List ℤ). slice_get xs i) same ∙ e) in
        subst (λ n. LiesIn n range) value other.lies

-- the hull that begins where a node has it
pub hull_at : (p : PreparedCells) (s : Stretches) (at : ℕ) (found : Option ℕ) (begin : ℕ)
    → AreHulls p.results (width_of p) s.nodes.items s.begins.items s.ranges.items
    → at < length s.nodes.items → found ≡ get_or s.begins.items at found → found ≡ Some begin
    → IsHull p.results (width_of p) s.ranges.items
    (get_or s.nodes.items at (record { from = 0; to = 0; skip = 0 })) begin
hull_at p s at found begin hulls within read is =
    let none : Stretch = record { from = 0; to = 0; skip = 0 } in
    hulls.each at (get_or s.nodes.items at none) begin
    (slice_get-get_or s.nodes.items at none within)
    (slice_get_read s.begins.items (length s.nodes.items) at found (sym hulls.count) within read
    ∙ ap Some is)

-- a node of a cut ends among the cells
pub node_inside : (cells count : ℕ) (nodes items : List Stretch) (at : ℕ) (node : Stretch)
    → IsCut cells nodes → items ≡ nodes → at < length items → count ≡ cells
    → (get_or items at node).to ≤ count
node_inside cells count nodes items at node cut same within all =
    let found : slice_get nodes at ≡ Some (get_or items at node) =
    ap (λ (xs : List Stretch). slice_get xs at) (sym same) ∙ slice_get-get_or items at node within in
    omega (arith, (cut.each at (get_or items at node) found).inside, all)
