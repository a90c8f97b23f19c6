-- What a bench is seen as. (Own choice of this project.)
use Rattle.std.specs.Prelude.{ℕ, List}

-- its room, in places, and the results of the last run, one for each step; none after a run that
-- answered false
pub record BenchView (A : Type 0) : Type 0 where
  pub room : ℕ
  pub results : List A
