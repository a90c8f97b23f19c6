-- What a write does to the bytes of a sink (own choice of this project).
use Rattle.std.specs.Prelude.{◌≡◌, ℕ, ◌<◌, ◌≤◌, ◌^◌, List, ◌++◌, take, Option, option_map}
use Rattle.ldp_io.specs.Count.{Rose}
use Rattle.ldp_io.specs.declared.sink.Wrote.{Wrote}
use Rattle.ldp_io.specs.declared.sink.Wrote.TheVariants.{Took, Failed, Memory}

-- A fact about the number of bytes that were taken, where some were.
abbrev pub IfWrote : Wrote → (ℕ → Type 0) → Type 0
IfWrote (Took n) P = P n
IfWrote Failed P = Unit {0}
IfWrote Memory P = Unit {0}

-- The bytes grew by the front of the piece, as long as the answer says, and not at all where
-- nothing was taken.
abbrev pub Grows : Wrote → List ℕ → Option (List ℕ) → Option (List ℕ) → Type 0
Grows (Took n) piece before now = now ≡ option_map (λ bytes. bytes ++ take n piece) before
Grows Failed piece before now = now ≡ before
Grows Memory piece before now = now ≡ before

-- The counts of faults and of wants, before and after a write that gave this answer: none fell or
-- left its type's range, and that of the answer rose.
pub record Counts (wrote : Wrote) (faults faults_now wants wants_now : ℕ) : Type 0 where
  pub faults_later : faults ≤ faults_now
  pub wants_later : wants ≤ wants_now
  pub faults_in_range : faults_now < 2 ^ 64
  pub wants_in_range : wants_now < 2 ^ 64
  pub failed : wrote ≡ Failed → Rose faults faults_now
  pub memory : wrote ≡ Memory → Rose wants wants_now
