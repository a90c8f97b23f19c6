-- What holds of a list of steps along which one value moves.
use Rattle.std.specs.Prelude.{◌≡◌, Bool, ℤ, List, Option, Some}
use Rattle.ldp_num.specs.StepList.{StepList, value}
use Rattle.ldp_tolerance.specs.Moves.{Moving, moves_in, marks, starts, finishes, middles}

-- the values between are defined, and lie between those at the start and at the end
pub record AreMiddles (found : Option (List ℤ)) (moves : List Bool) (start finish : List ℤ)
    : Type 0 where
  pub values : List Moving
  pub is : found ≡ Some (middles values)
  pub moves_are : marks values ≡ moves
  pub starts_are : starts values ≡ start
  pub finishes_are : finishes values ≡ finish

-- A list whose steps all tell whether they move has, wherever it has a value at the start and at the
-- end, one between, and each number of it lies between those two; what does not move stays.
abbrev pub OneMovingValue : Type 0
OneMovingValue =
    (list : StepList) (inputs : List Moving) (moves : List Bool) (start finish : List ℤ)
    → moves_in list (marks inputs) ≡ Some moves
    → value list (starts inputs) ≡ Some start → value list (finishes inputs) ≡ Some finish
    → AreMiddles (value list (middles inputs)) moves start finish
