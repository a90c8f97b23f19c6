-- Runs of a list that was cut in two, of which the head's results are kept. Only private functions
-- speak of it.
use Rattle.std.specs.Prelude.{◌≡◌, ◌≤◌, ◌+◌, ℕ, ℤ, List, length, take, drop, Option, None, Some, Bool}
use Rattle.std.specs.Bool.{OnTrue}
use Rattle.ldp_num.specs.Written.{Ops, written}
use Rattle.ldp_num.specs.StepList.{StepList, value_in}
use Rattle.ldp_series.specs.Cut.{IsCut}
use Rattle.ldp_series.specs.declared.cut.Cut.{Cut}

-- of these values, so many are the inputs, and the others the head's results over the first of them
abbrev pub HasHead : {A : Type 0} → Ops A → StepList → ℕ → List A → Type 0
HasHead ops head inputs places =
    value_in ops head (take head.inputs places) ≡ Some (drop inputs places)

-- the parts of the list, with room for their runs, and the inputs of the tail: after a run of the
-- head its results are there
pub record IsReady (carrier : ℕ) (list : StepList) (cut : Cut) (ran : Bool)
    (places : List (List ℤ)) (room : ℕ) : Type 0 where
  pub parts : IsCut cut.head.inputs list cut.head cut.tail
  pub few : cut.head.inputs ≤ list.inputs
  pub all : length places ≡ list.inputs + length cut.head.outs
  pub ran_before : OnTrue ran (HasHead (written carrier) cut.head list.inputs places)
  pub head_room : length cut.head.steps ≤ room
  pub tail_room : length cut.tail.steps ≤ room

-- ready for runs of the list, whole where it is not cut
abbrev pub AreReady : ℕ → StepList → Option Cut → Bool → List (List ℤ) → ℕ → Type 0
AreReady carrier list None ran places room = length list.steps ≤ room
AreReady carrier list (Some cut) ran places room = IsReady carrier list cut ran places room
