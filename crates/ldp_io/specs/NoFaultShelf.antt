-- A shelf in memory of which no call is to fail (own choice of this project).
use Rattle.std.specs.Prelude.{ℕ, List}
use Rattle.ldp_io.specs.Folder.{Folder, file_bytes}

-- The files and what is left of the one begun last, and the place begun last.
pub record PlainShelfState : Type 0 where
  pub folder : Folder
  pub begun : ℕ

-- The shelf where the file of that name is begun at a place.
abbrev pub after_plain_begin : ℕ → List ℕ → PlainShelfState → PlainShelfState
after_plain_begin place name shelf = record {
  folder = record shelf.folder { rest = file_bytes shelf.folder.files name };
  begun = place;
}
