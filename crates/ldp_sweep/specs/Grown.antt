-- Nodes that were added to others. Only private functions speak of it.
use Rattle.std.specs.Prelude.{◌≡◌, ◌≤◌, ◌++◌, ℕ, List, length}
use Rattle.ldp_sweep.specs.declared.stretch.Stretch.{Stretch}
use Rattle.ldp_sweep.specs.Cut.{start, AreNodes}

-- more nodes after the old ones, which cover the cells down to this one
pub record IsGrown (cells : ℕ) (old new : List Stretch) (from : ℕ) : Type 0 where
  pub more : List Stretch
  pub is : new ≡ old ++ more
  pub nodes : AreNodes cells old → AreNodes cells new
  pub covers : start cells new (length new) ≡ from

-- whatever the number of cells is, where the old ones cover those from the other on
abbrev pub IsGrownFrom : List Stretch → List Stretch → ℕ → ℕ → Type 0
IsGrownFrom old new from to =
    (cells : ℕ) → to ≤ cells → start cells old (length old) ≡ to → IsGrown cells old new from
