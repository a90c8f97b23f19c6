-- What the calls of a shelf do to the file that is read (own choice of this project).
use Rattle.std.specs.Prelude.{◌≡◌, ℕ, List, [], ◌++◌, take, Option, option_map, IfSome}
use Rattle.ldp_io.specs.declared.shelf.Opened.{Opened}
use Rattle.ldp_io.specs.declared.shelf.Next.{Next}
use Rattle.ldp_io.specs.declared.shelf.Opened.TheVariants as opened
use Rattle.ldp_io.specs.declared.shelf.Next.TheVariants as nexts

-- The bytes of the file under each name, none where there is no such file. A name is its bytes.
abbrev pub Files : Type 0
Files = List ℕ → List ℕ

-- After `begin` the file's bytes are left to be read, and nothing where it was not opened.
abbrev pub Begins : Opened → List ℕ → Option Files → Option (List ℕ) → Type 0
Begins opened.Ready name files rest = rest ≡ option_map (λ f. f name) files
Begins opened.Failed name files rest = rest ≡ option_map (λ f. []) files
Begins opened.Memory name files rest = rest ≡ option_map (λ f. []) files

-- A fact about the number of bytes that `next` took, where it took some.
abbrev pub IfTook : Next → (ℕ → Type 0) → Type 0
IfTook (nexts.Took n) P = P n
IfTook nexts.End P = Unit {0}
IfTook nexts.Failed P = Unit {0}

-- What `next` takes stands at the front of the buffer, and the rest before is that and the rest
-- now. The end comes only where nothing is left. A call that takes nothing leaves the rest as it
-- was.
abbrev pub Takes : Next → List ℕ → Option (List ℕ) → Option (List ℕ) → Type 0
Takes (nexts.Took n) buffer before now = before ≡ option_map (λ bytes. take n buffer ++ bytes) now
Takes nexts.End buffer before now = (now ≡ before) × IfSome before (λ bytes. bytes ≡ [])
Takes nexts.Failed buffer before now = now ≡ before
