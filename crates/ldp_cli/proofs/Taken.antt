-- A piece more of a file.
use Rattle.std.proofs.Common.{◌≡◌, ℕ, ◌+◌, ◌++◌, List, length, append_assoc, length-append}
use Rattle.std.proofs.Common.{refl, ap, sym, ◌∙◌}
use Rattle.std.specs.Prelude.{Option, Some, None, option_map, IfSome}
use Rattle.ldp_io.specs.Shelf.{Files}
use Rattle.ldp_cli.specs.Taken.{AreTaken}

told_on : (taken piece name : List ℕ) (files : Option Files) (before now : Option (List ℕ))
    → IfSome files (λ f. (left : List ℕ) × (before ≡ Some left) × (taken ++ left ≡ f name))
    → before ≡ option_map (λ bytes. piece ++ bytes) now
    → IfSome files (λ f. (left : List ℕ) × (now ≡ Some left) × ((taken ++ piece) ++ left ≡ f name))
told_on taken piece name None before now told e = tt
told_on taken piece name (Some f) before None told e =
    let lost : Some told.0 ≡ None = sym told.1 ∙ e in absurd cc
told_on taken piece name (Some f) before (Some rest) told e =
    let same : told.0 ≡ piece ++ rest = cc in
    (rest, refl, rw append_assoc (ap (λ left. taken ++ left) (sym same) ∙ told.2))

-- where all pieces so far are held and the next one was fed, one piece more is held
pub fed_taken : (held holds : List ℕ → Type 0) (count more : ℕ) (piece name : List ℕ)
    (files : Option Files) (before now : Option (List ℕ)) → AreTaken held count name files before
    → before ≡ option_map (λ bytes. piece ++ bytes) now → length piece ≡ more
    → ((text : List ℕ) → held text → holds (text ++ piece))
    → AreTaken holds (count + more) name files now
fed_taken held holds count more piece name files before now t e l fed = record {
  taken = t.taken ++ piece;
  count_is = length-append t.taken piece ∙ ap (λ n. n + length piece) t.count_is
      ∙ ap (λ n. count + n) l;
  held = fed t.taken t.held;
  told = told_on t.taken piece name files before now t.told e;
}
