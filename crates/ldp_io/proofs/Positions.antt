-- The place of the first element that passes, and that element.
use Rattle.std.proofs.Common.{◌≡◌, ◌<◌, ◌≤◌, ℕ, zero, suc, Bool, true, false, cond, nat_lt}
use Rattle.std.proofs.Common.{List, [], ◌∷◌, length, Some, None, refl, sym, arith}
use Rattle.std.specs.Prelude.{position, slice_get}
use Rattle.std.specs.Option.{is_some}
use Rattle.std.specs.List.{position_or_len}
use Rattle.std.proofs.lemmas.Bool.Decides.{nat_tests}
use Rattle.std.proofs.lemmas.Option.{slice_get_past}
use Rattle.std.proofs.lemmas.List.Folds.{find_at}
use Rattle.ldp_io.specs.Folder.{File, is_named, is_held, file_bytes, bytes_of, rest_of}

within_is_some : (files : List File) (k : ℕ) → k < length files → is_some (slice_get files k) ≡ true
within_is_some [] k h = absurd (omega arith)
within_is_some (file ∷ files) zero h = refl
within_is_some (file ∷ files) (suc k) h = within_is_some files k (omega arith)

held_at : (files : List File) (k : ℕ) (b : Bool) → nat_lt k (length files) ≡ b
    → is_some (cond b (Some k) None) ≡ is_some (slice_get files k)
held_at files k true e =
    let h : k < length files = grind (arith, nat_tests) in sym (within_is_some files k h)
held_at files k false e =
    let h : length files ≤ k = grind (arith, nat_tests) in rw (slice_get_past files k h) refl

bytes_at : (files : List File) (k : ℕ) (b : Bool) → nat_lt k (length files) ≡ b
    → rest_of files (cond b (Some k) None) 0 ≡ bytes_of (slice_get files k)
bytes_at files k true e = refl
bytes_at files k false e =
    let h : length files ≤ k = grind (arith, nat_tests) in rw (slice_get_past files k h) refl

-- a place is found exactly where a file is
pub place_held : (files : List File) (name : List ℕ)
    → is_some (position (is_named name) files) ≡ is_held files name
place_held files name =
    rw (find_at (is_named name) files)
    (held_at files (position_or_len (is_named name) files) _ refl)

-- and what is left there, where nothing was taken yet, is that file
pub place_bytes : (files : List File) (name : List ℕ)
    → rest_of files (position (is_named name) files) 0 ≡ file_bytes files name
place_bytes files name =
    rw (find_at (is_named name) files)
    (bytes_at files (position_or_len (is_named name) files) _ refl)
