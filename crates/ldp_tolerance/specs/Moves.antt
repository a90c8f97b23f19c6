-- One list of steps at three values of an input that moves: where it starts, where it ends, and one
-- between. (Own choice of this project.)
use Rattle.std.specs.Prelude.{◌≡◌, ◌≤ℤ◌, ◌⊎◌, Bool, true, false, ℤ, List, map, Option, Some, None}
use Rattle.ldp_num.specs.Written.{Ops}
use Rattle.ldp_num.specs.StepList.{StepList, value_in}

-- whether a result moves that has two operands; not told where both of them move
abbrev pub either_moves : Bool → Bool → Option Bool
either_moves true true = None
either_moves true false = Some true
either_moves false moves = Some moves

-- the square of what stays stays; not told of what moves, since a square may fall and rise again
abbrev pub square_moves : Bool → Option Bool
square_moves true = None
square_moves false = Some false

-- The operations over marks, each of which says whether a value moves. Along one that moves, a sum, a
-- difference, a product and a quotient rise or fall all the way, and so does a root.
abbrev pub move_ops : Ops Bool
move_ops = record {
  constant = λ v. false;
  add = either_moves;
  sub = either_moves;
  mul = either_moves;
  div = either_moves;
  sq = square_moves;
  sqrt = λ moves. Some moves;
  need = λ moves. Some moves;
}

-- which results of a list move, from which of its inputs do; undefined where a step is not told
abbrev pub moves_in : StepList → List Bool → Option (List Bool)
moves_in list marks = value_in move_ops list marks

-- n lies between p and q, whichever of them is greater
abbrev pub LiesBetween : ℤ → ℤ → ℤ → Type 0
LiesBetween n p q = ((p ≤ℤ n) × (n ≤ℤ q)) ⊎ ((q ≤ℤ n) × (n ≤ℤ p))

-- a value at the start, at the end and between, and whether it moves
pub record Moving : Type 0 where
  pub moves : Bool
  pub start : ℤ
  pub finish : ℤ
  pub middle : ℤ
  pub between : LiesBetween middle start finish
  pub still : moves ≡ false → start ≡ finish

-- which of these values move
abbrev pub marks : List Moving → List Bool
marks values = map (λ (one : Moving). one.moves) values

-- what they are at the start
abbrev pub starts : List Moving → List ℤ
starts values = map (λ (one : Moving). one.start) values

-- what they are at the end
abbrev pub finishes : List Moving → List ℤ
finishes values = map (λ (one : Moving). one.finish) values

-- what they are between
abbrev pub middles : List Moving → List ℤ
middles values = map (λ (one : Moving). one.middle) values
