-- Files in memory (own choice of this project).
use Rattle.std.specs.Prelude.{ℕ, Bool, List, [], ◌++◌, ◌==◌, length, take, drop, min, find}
use Rattle.std.specs.Prelude.{Option, Some, None, slice_get, if◌then◌else◌}
use Rattle.std.specs.Option.{option_map_or, is_some}
use Rattle.std.specs.Str.{bytes_eq}
use Rattle.ldp_io.specs.declared.shelf.Next.{Next}
use Rattle.ldp_io.specs.declared.shelf.Next.TheVariants as nexts

-- A file: the bytes of its name, and its own.
pub record File : Type 0 where
  pub name : List ℕ
  pub bytes : List ℕ

-- The files, newest first; the most bytes that a call takes; what is left of the file opened last.
pub record Folder : Type 0 where
  pub files : List File
  pub piece : ℕ
  pub rest : List ℕ

-- the file has this name, byte for byte
abbrev pub is_named : List ℕ → File → Bool
is_named name file = bytes_eq file.name name

-- Is there a file of that name?
abbrev pub is_held : List File → List ℕ → Bool
is_held files name = is_some (find (is_named name) files)

-- The bytes of a file, none where there is no file.
abbrev pub bytes_of : Option File → List ℕ
bytes_of file = option_map_or (λ one. one.bytes) file []

-- The bytes of the newest file of that name, none where there is no such file.
abbrev pub file_bytes : List File → List ℕ → List ℕ
file_bytes files name = bytes_of (find (is_named name) files)

-- What is left of the file at a place of the list, where so many of its bytes were taken.
abbrev pub rest_of : List File → Option ℕ → ℕ → List ℕ
rest_of files None taken = []
rest_of files (Some place) taken = drop taken (bytes_of (slice_get files place))

-- The answer of a folder of which no call is to fail, to a buffer of so many bytes.
abbrev pub plain_answer : Folder → ℕ → Next
plain_answer folder room =
    if length folder.rest == 0 then nexts.End
    else nexts.Took (min folder.piece (min room (length folder.rest)))

-- The folder after this answer: what was taken is gone from the rest.
abbrev pub folder_after : Next → Folder → Folder
folder_after (nexts.Took n) folder = record folder { rest = drop n folder.rest }
folder_after nexts.End folder = folder
folder_after nexts.Failed folder = folder

-- The buffer after this answer: what was taken stands at its front.
abbrev pub filled : Next → List ℕ → List ℕ → List ℕ
filled (nexts.Took n) rest buffer = take n rest ++ drop n buffer
filled nexts.End rest buffer = buffer
filled nexts.Failed rest buffer = buffer
