-- Counts of calls and of what went wrong outside, from 0 to 2^64 - 1 (own choice of this project).
use Rattle.std.specs.Prelude.{◌≡◌, ℕ, ◌+◌, ◌-◌, ◌^◌, ◌<◌, ◌≤◌, ◌==◌, min, Bool, List, length}
use Rattle.std.specs.Prelude.{slice_index, slice_set}
use Rattle.std.specs.List.{list_any}

-- One more. A count stands still at its type's end.
abbrev pub raised : ℕ → ℕ
raised count = min (count + 1) (2 ^ 64 - 1)

-- The count rose: it is greater now, or it stands at its type's end.
abbrev pub Rose : ℕ → ℕ → Type 0
Rose before now = raised before ≤ now

-- The counts of the places, each at a later time: none fell.
abbrev pub Later : (ℕ → ℕ) → (ℕ → ℕ) → Type 0
Later before now = (place : ℕ) → before place ≤ now place

-- Is the call with this number among those that are to fail?
abbrev pub is_listed : List ℕ → ℕ → Bool
is_listed listed call = list_any (λ one. one == call) listed

-- The counts of the places where the one at this place rose.
abbrev pub raised_at : ℕ → List ℕ → List ℕ
raised_at place faults = slice_set faults place (raised (slice_index faults place))

-- Counts of the places 0 to 3, each in its type's range.
pub record AreCounts (faults : List ℕ) : Type 0 where
  pub four : length faults ≡ 4
  pub in_range : (place : ℕ) → slice_index faults place < 2 ^ 64
