-- A sink in memory of which no call is to fail (own choice of this project).
use Rattle.std.specs.Prelude.{ℕ, List, ◌++◌, take}
use Rattle.ldp_io.specs.Count.{raised}
use Rattle.ldp_io.specs.declared.sink.Wrote.{Wrote}
use Rattle.ldp_io.specs.declared.sink.Wrote.TheVariants.{Took, Failed, Memory}

-- The bytes that were taken, the most that a call takes, and how often a call has wanted memory.
pub record PlainSinkState : Type 0 where
  pub written : List ℕ
  pub piece : ℕ
  pub wants : ℕ

-- The sink after a call that gave this answer.
abbrev pub after_plain_write : Wrote → List ℕ → PlainSinkState → PlainSinkState
after_plain_write (Took n) piece sink = record sink { written = sink.written ++ take n piece }
after_plain_write Failed piece sink = sink
after_plain_write Memory piece sink = record sink { wants = raised sink.wants }
