-- The rows of a flat table.
use Rattle.std.proofs.Common.{◌≡◌, ℕ, zero, suc, ◌+◌, ◌*◌, ◌-◌, ◌<◌, ◌≤◌, Bool, true, false, ℤ}
use Rattle.std.proofs.Common.{List, [], ◌∷◌, ◌++◌, length, map, take, drop, get_or, arith, refl}
use Rattle.std.proofs.Common.{sym, ap, subst, ◌∙◌}
use Rattle.std.proofs.lemmas.List.{length-take, take_all, take-append-le, drop-append-le, drop-drop}
use Rattle.std.proofs.lemmas.List.{length-drop, nil_from_length, map_more}
use Rattle.std.proofs.lemmas.List.Elements.{All-nil, All-cons, All-take, All-drop}
use Rattle.std.proofs.lemmas.Option.{slice_get_within, get_or_from_slice_get, same_Some}
use Rattle.std.proofs.Math.Nat.{mul-le-mul}
use Rattle.std.specs.Prelude.{All, Option, Some, None, slice_get, if◌then◌else◌}
use Rattle.std.specs.Option.{ForSome}
use Rattle.ldp_num.specs.Number.{IsNumber}
use Rattle.ldp_distortion.specs.Rows.{RowTable, rows, IsRow, AreRows}

-- a row for each flag
pub length-rows : (width : ℕ) (defined : List Bool) (numbers : List ℤ)
    → length (rows width defined numbers) ≡ length defined
length-rows width [] numbers = refl
length-rows width (d ∷ defined) numbers = ap suc (length-rows width defined (drop width numbers))

-- the row at a place
pub slice_get-rows : (width : ℕ) (defined : List Bool) (numbers : List ℤ) (i : ℕ) (d : Bool)
    → i < length defined
    → slice_get (rows width defined numbers) i
    ≡ Some (if get_or defined i d then Some (take width (drop (i * width) numbers)) else None)
slice_get-rows width [] numbers i d h = absurd (omega arith)
slice_get-rows width (b ∷ defined) numbers zero d h =
    let start : 0 * width ≡ 0 = omega arith in
    rw start refl
slice_get-rows width (b ∷ defined) numbers (suc i) d h =
    let start : width + i * width ≡ suc i * width = omega arith in
    slice_get-rows width defined (drop width numbers) i d (omega arith)
    ∙ ap (λ (ns : List ℤ). Some (if get_or defined i d then Some (take width ns) else None))
    (drop-drop (i * width) width numbers ∙ ap (λ (n : ℕ). drop n numbers) start)

-- one more row
pub rows_push : (width : ℕ) (defined : List Bool) (numbers : List ℤ) (b : Bool) (row : List ℤ)
    → length numbers ≡ width * length defined → length row ≡ width
    → rows width (defined ++ b ∷ []) (numbers ++ row) ≡ rows width defined numbers
    ++ (if b then Some row else None) ∷ []
rows_push width [] numbers b row h e =
    let none : numbers ≡ [] = nil_from_length numbers (omega arith) in
    rw (none, take_all width row (omega arith)) refl
rows_push width (d ∷ defined) numbers b row h e =
    let room : width ≤ length numbers = omega arith in
    let left : length (drop width numbers) ≡ width * length defined =
    simp length-drop (omega arith) in
    rw (
      take-append-le width numbers row room,
      drop-append-le width numbers row room,
      rows_push width defined (drop width numbers) b row left e,
    )
    refl

-- a place of the table that is seen
pub row_within : (width : ℕ) (defined : List Bool) (numbers : List ℤ) (table : RowTable) (i : ℕ)
    → record { width = width; rows = rows width defined numbers } ≡ table → i < length table.rows
    → i < length defined
row_within width defined numbers table i e h =
    let count : length (rows width defined numbers) ≡ length defined =
    length-rows width defined numbers in
    let seen : length (rows width defined numbers) ≡ length table.rows =
    ap (λ (t : RowTable). length t.rows) e in
    omega arith

-- a row ends within the numbers
pub row_fits : (width count i : ℕ) (numbers : List ℤ) → i < count → length numbers ≡ width * count
    → i * width + width ≤ length numbers
row_fits width count i numbers h full =
    let rows_fit : suc i * width ≤ count * width = mul-le-mul h (omega arith) in
    omega arith

-- the row at a place that was read as undefined, and at one that was read as defined
pub row_undefined : (width : ℕ) (defined : List Bool) (numbers : List ℤ) (i : ℕ) (b : Bool)
    → i < length defined
    → b ≡ get_or defined i b → b ≡ false → slice_get (rows width defined numbers) i ≡ Some None
row_undefined width defined numbers i b h read e =
    slice_get-rows width defined numbers i b h
    ∙ ap (λ (f : Bool). Some (if f then Some (take width (drop (i * width) numbers)) else None))
    (sym read ∙ e)

pub row_defined : (width : ℕ) (defined : List Bool) (numbers part : List ℤ) (i : ℕ) (b : Bool)
    → i < length defined
    → b ≡ get_or defined i b → b ≡ true → part ≡ numbers
    → slice_get (rows width defined numbers) i
    ≡ Some (Some (take (i * width + width - i * width) (drop (i * width) part)))
row_defined width defined numbers part i b h read e is =
    let count : i * width + width - i * width ≡ width = omega arith in
    rw (count, is)
    (slice_get-rows width defined numbers i b h
    ∙ ap (λ (f : Bool). Some (if f then Some (take width (drop (i * width) numbers)) else None))
    (sym read ∙ e))

-- a row for one more element
pub rows_more : {A : Type 0} (f : A → Option (List ℤ)) (xs : List A) (width : ℕ)
    (defined : List Bool) (numbers : List ℤ) (at : ℕ) (x : A) (b : Bool)
    (row : List ℤ) → length defined ≡ at → length numbers ≡ width * at → length row ≡ width
    → slice_get xs at ≡ Some x
    → f x ≡ (if b then Some row else None) → rows width defined numbers ≡ map f (take at xs)
    → rows width (defined ++ b ∷ []) (numbers ++ row) ≡ map f (take (at + 1) xs)
rows_more f xs width defined numbers at x b row count full e h is so_far =
    let within : at < length xs = slice_get_within xs at x h in
    let here : f (get_or xs at x) ≡ (if b then Some row else None) =
    ap f (get_or_from_slice_get xs at x x h) ∙ is in
    let filled : length numbers ≡ width * length defined =
    full ∙ ap (λ (n : ℕ). width * n) (sym count) in
    rows_push width defined numbers b row filled e
    ∙ ap (λ (rs : List (Option (List ℤ))). rs ++ (if b then Some row else None) ∷ []) so_far
    ∙ ap (λ (r : Option (List ℤ)). map f (take at xs) ++ r ∷ []) (sym here)
    ∙ sym (map_more f xs at x within)

-- each row of a full table has its width
row_of : (b : Bool) (width : ℕ) (numbers : List ℤ) → width ≤ length numbers → All IsNumber numbers
    → ForSome (if b then Some (take width numbers) else None) (IsRow width)
row_of true width numbers h k row e =
    let same : take width numbers ≡ row = same_Some (take width numbers) row e in
    subst (IsRow width) same
    (record {
      count = simp length-take (omega arith);
      in_range =
          All-take IsNumber width numbers k;
    })
row_of false width numbers h k row e = cc

pub full_rows : (width : ℕ) (defined : List Bool) (numbers : List ℤ)
    → length numbers ≡ width * length defined → All IsNumber numbers
    → AreRows width (rows width defined numbers)
full_rows width [] numbers h k = All-nil (λ (row : Option (List ℤ)). ForSome row (IsRow width))
full_rows width (b ∷ defined) numbers h k =
    let left : length (drop width numbers) ≡ width * length defined =
    simp length-drop (omega arith) in
    All-cons (λ (row : Option (List ℤ)). ForSome row (IsRow width))
    (if b then Some (take width numbers) else None)
    (rows width defined (drop width numbers)) (row_of b width numbers (omega arith) k)
    (full_rows width defined (drop width numbers) left (All-drop IsNumber width numbers k))
