-- The slack of a design: its worst over heights that are uncertain by a tolerance. (Own choice of
-- this project.)
use Rattle.std.specs.Prelude.{◌≡◌, ◌≤ℤ◌, ℕ, ℤ, pos, min, Bool, ◌&&◌, ◌||◌, nat_lt, int_lt, int_le}
use Rattle.std.specs.Prelude.{List, Option, if◌then◌else◌}
use Rattle.ldp_series.specs.declared.list.Lists.{Lists}
use Rattle.ldp_cells.specs.Range.{raised}
use Rattle.ldp_cells.specs.declared.cell.Cell.{Cell}
use Rattle.ldp_distortion.specs.Distortion.{distortions}
use Rattle.ldp_distortion.specs.Worst.{worst_of}
use Rattle.ldp_distortion.specs.declared.inputs.Inputs.{Inputs}
use Rattle.ldp_distortion.specs.declared.worst.Worst.{Worst}
use Rattle.ldp_distortion.specs.declared.worst.Worst.TheVariants as worsts
use Rattle.ldp_tolerance.specs.Heights.{lowered, AreWithin}
use Rattle.ldp_tolerance.specs.declared.side.Side.TheVariants.{Low, High}
use Rattle.ldp_tolerance.specs.declared.side.Slack.{Slack}
use Rattle.ldp_tolerance.specs.declared.side.Slack.TheVariants.{Is, Unusable}

-- whether the second of two worsts is told, v at cell i and w at cell j: it is greater, or as great
-- at an earlier cell
abbrev pub is_second : ℤ → ℕ → ℤ → ℕ → Bool
is_second v i w j = int_lt v w || (int_le v w && nat_lt j i)

-- the greater of the worsts over the lower and over the higher heights, and the first cell that has
-- it, the lower height first; the first cell that is undefined in one of both, if there is one
abbrev pub slack_from : Worst → Worst → Slack
slack_from (worsts.Is v i) (worsts.Is w j) =
    if is_second v i w j then Is w j High else Is v i Low
slack_from (worsts.Is v i) (worsts.Unusable j) = Unusable j
slack_from (worsts.Unusable i) (worsts.Is w j) = Unusable i
slack_from (worsts.Unusable i) (worsts.Unusable j) = Unusable (min i j)

-- the slack, from the distortions at the lower heights and those at the higher ones
abbrev pub slack_of : List (Option ℤ) → List (Option ℤ) → Slack
slack_of low high = slack_from (worst_of low) (worst_of high)

-- the slack of a design over cells whose heights are uncertain by t millimetres
unfoldable pub slack_over : Lists → Inputs → List Cell → ℕ → Slack
slack_over lists at cells t =
    slack_of (distortions lists at (lowered t cells)) (distortions lists at (raised (pos t) cells))

-- the design is usable, and its worst is at most this
abbrev pub IsAtMost : ℤ → Worst → Type 0
IsAtMost most (worsts.Is value cell) = value ≤ℤ most
IsAtMost most (worsts.Unusable cell) = ⊥

-- the design is usable, and this is its worst
abbrev pub HasWorst : ℤ → Worst → Type 0
HasWorst value (worsts.Is worst cell) = worst ≡ value
HasWorst value (worsts.Unusable cell) = ⊥

-- Over every list of cells within t the design is usable and its worst is at most this value; one
-- such list has exactly that worst.
pub record IsGreatest (lists : Lists) (at : Inputs) (cells : List Cell) (t : ℕ) (value : ℤ)
    : Type 0 where
  pub holds : (others : List Cell) → AreWithin t cells others
      → IsAtMost value (worst_of (distortions lists at others))
  pub some : List Cell
  pub within : AreWithin t cells some
  pub reached : HasWorst value (worst_of (distortions lists at some))

-- a slack that is defined is the greatest worst within the tolerance
abbrev pub IsGreatestOf : Lists → Inputs → List Cell → ℕ → Slack → Type 0
IsGreatestOf lists at cells t (Is value cell side) = IsGreatest lists at cells t value
IsGreatestOf lists at cells t (Unusable cell) = Unit {0}
