-- What was taken of a file so far. Own choice of this project.
use Rattle.std.specs.Prelude.{◌≡◌, ℕ, List, ◌++◌, length, Option, Some, IfSome}
use Rattle.ldp_io.specs.Shelf.{Files}

-- So many bytes are held; where the shelf tells its files, they and the rest are the file of that
-- name.
pub record AreTaken (holds : List ℕ → Type 0) (count : ℕ) (name : List ℕ) (files : Option Files)
    (rest : Option (List ℕ)) : Type 0 where
  pub taken : List ℕ
  pub count_is : length taken ≡ count
  pub held : holds taken
  pub told : IfSome files (λ f. (left : List ℕ) × (rest ≡ Some left) × (taken ++ left ≡ f name))
