-- What the answers of `toml` say of a text's document.
use Rattle.std.proofs.Common.{◌≡◌, ℕ, List, Some, None, refl}
use Rattle.std.proofs.lemmas.Bool.{cases_Bool}
use Rattle.std.proofs.Common.{inl, inr}
use Rattle.std.specs.Str.{is_utf8, IsUtf8}
use Rattle.std.proofs.lemmas.Str.{is_utf8-from_IsUtf8, IsUtf8-from_is_utf8}
use Rattle.toml.specs.Data.{Members}
use Rattle.toml.specs.Parse.{parse_document}
use Rattle.ldp_grids.specs.Reading.{document_of}

pub document_some : (text : List ℕ) (top : Members)
    → IsUtf8 text → parse_document text ≡ Some top → document_of text ≡ Some top
unfolding document_of
document_some text top utf8 parsed = rw (is_utf8-from_IsUtf8 text utf8, parsed) refl

pub document_none : (text : List ℕ)
    → (IsUtf8 text → parse_document text ≡ None) → document_of text ≡ None
unfolding document_of
document_none text refused =
    elim (cases_Bool (is_utf8 text)) [
      | inl utf8 ↦ rw (utf8, refused (IsUtf8-from_is_utf8 text utf8)) refl
      | inr other ↦ rw other refl
    ]
