-- A shelf in memory (own choice of this project).
use Rattle.std.specs.Prelude.{ℕ, List, [], ◌||◌, Bool, not, drop, if◌then◌else◌}
use Rattle.ldp_io.specs.Count.{raised, raised_at, is_listed}
use Rattle.ldp_io.specs.Folder.{Folder, is_held, file_bytes, plain_answer}
use Rattle.ldp_io.specs.declared.shelf.Opened.{Opened}
use Rattle.ldp_io.specs.declared.shelf.Next.{Next}
use Rattle.ldp_io.specs.declared.shelf.Opened.TheVariants as opened
use Rattle.ldp_io.specs.declared.shelf.Next.TheVariants as nexts

-- The files and what is left of the one begun last, the numbers of the calls that are to fail, the
-- number of the next call, the place begun last, and how often a call for each place has failed.
pub record ShelfState : Type 0 where
  pub folder : Folder
  pub listed : List ℕ
  pub calls : ℕ
  pub begun : ℕ
  pub faults : List ℕ

-- Is the next call to fail?
abbrev pub is_next_listed : ShelfState → Bool
is_next_listed shelf = is_listed shelf.listed shelf.calls

-- A call for a place fails where it is listed, and `begin` also where the name is not held.
abbrev pub begin_answer : ShelfState → List ℕ → Opened
begin_answer shelf name =
    if is_next_listed shelf || not (is_held shelf.folder.files name) then opened.Failed
    else opened.Ready

-- The shelf after `begin` gave this answer.
abbrev pub after_begin : Opened → ℕ → List ℕ → ShelfState → ShelfState
after_begin opened.Ready place name shelf = record shelf {
  folder = record shelf.folder { rest = file_bytes shelf.folder.files name };
  calls = raised shelf.calls;
  begun = place;
}
after_begin opened.Failed place name shelf = record shelf {
  folder = record shelf.folder { rest = [] };
  calls = raised shelf.calls;
  begun = place;
  faults = raised_at place shelf.faults;
}
after_begin opened.Memory place name shelf = shelf

-- The answer to a buffer of so many bytes.
abbrev pub next_answer : ShelfState → ℕ → Next
next_answer shelf room =
    if is_next_listed shelf then nexts.Failed else plain_answer shelf.folder room

-- The shelf after `next` gave this answer.
abbrev pub after_next : Next → ShelfState → ShelfState
after_next (nexts.Took n) shelf = record shelf {
  folder = record shelf.folder { rest = drop n shelf.folder.rest };
  calls = raised shelf.calls;
}
after_next nexts.End shelf = record shelf { calls = raised shelf.calls }
after_next nexts.Failed shelf = record shelf {
  calls = raised shelf.calls;
  faults = raised_at shelf.begun shelf.faults;
}
