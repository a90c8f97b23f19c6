-- The files of a command: what each is for, and how its reading fails. Own choice of this project.
use Rattle.std.specs.Prelude.{◌≡◌, ℕ, ◌+◌, Bool, IsTrue, List, [], ◌∷◌, take}
use Rattle.std.specs.Prelude.{Option, Some, option_map, IfSome, slice_get, Result, Ok, Err}
use Rattle.ldp_io.specs.Count.{Rose}
use Rattle.ldp_io.specs.Shelf.{Files}
use Rattle.ldp_message.specs.declared.file_role.FileRole.{FileRole}
use Rattle.ldp_message.specs.declared.refusal.Refusal.{Refusal}
use Rattle.ldp_cli.specs.Readings.{is_accepted}
use Rattle.ldp_cli.specs.declared.stop.Stop.{Stop}
use Rattle.ldp_cli.specs.declared.stop.Stop.TheVariants as stops

-- a file of a command: what it is for, and its name
pub record Asked : Type 0 where
  pub role : FileRole
  pub name : List ℕ

-- the shelf serves each file at its place, the first of them at this one
abbrev pub ServesFrom : (ℕ → List ℕ → Bool) → ℕ → List Asked → Type 0
ServesFrom serves place [] = Unit {0}
ServesFrom serves place (file ∷ files) =
    IsTrue (serves place file.name) × ServesFrom serves (place + 1) files

-- each of these files is accepted
abbrev pub AreAccepted : Files → List Asked → Type 0
AreAccepted files [] = Unit {0}
AreAccepted files (file ∷ more) =
    IsTrue (is_accepted file.role (files file.name)) × AreAccepted files more

-- A call for the file at this place has failed, and where the shelf tells its files, those before
-- it are accepted.
pub record HasFailed (place : ℕ) (role : FileRole) (asked : List Asked) (before now : ℕ → ℕ)
    (files : Option Files) : Type 0 where
  pub named : option_map (λ file. file.role) (slice_get asked place) ≡ Some role
  pub rose : Rose (before place) (now place)
  pub earlier : IfSome files (λ f. AreAccepted f (take place asked))

-- The result is what is told, or the command stops from outside: a file cannot be read, or memory
-- is wanting.
abbrev pub Gives : {A : Type 0} → Result A Stop → Result A Refusal → Type 0
Gives (Ok a) told = told ≡ Ok a
Gives (Err (stops.Refused refusal)) told = told ≡ Err refusal
Gives (Err (stops.Unread place role)) told = Unit {0}
Gives (Err stops.Memory) told = Unit {0}

-- Where the stop is that a file cannot be read, it is this one, and a call for it has failed.
abbrev pub StopsAt : ℕ → FileRole → Stop → (ℕ → ℕ) → (ℕ → ℕ) → Type 0
StopsAt place role (stops.Refused refusal) before now = Unit {0}
StopsAt place role (stops.Unread at what) before now =
    (at ≡ place) × (what ≡ role) × Rose (before place) (now place)
StopsAt place role stops.Memory before now = Unit {0}

-- The same of a command, which asks for these files.
abbrev pub StopsIn : List Asked → Stop → (ℕ → ℕ) → (ℕ → ℕ) → Option Files → Type 0
StopsIn asked (stops.Refused refusal) before now files = Unit {0}
StopsIn asked (stops.Unread place role) before now files =
    HasFailed place role asked before now files
StopsIn asked stops.Memory before now files = Unit {0}
