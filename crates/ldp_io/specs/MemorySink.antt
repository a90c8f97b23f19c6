-- A sink in memory (own choice of this project).
use Rattle.std.specs.Prelude.{ℕ, List, ◌++◌, take, min, if◌then◌else◌}
use Rattle.ldp_io.specs.Count.{raised, is_listed}
use Rattle.ldp_io.specs.declared.sink.Wrote.{Wrote}
use Rattle.ldp_io.specs.declared.sink.Wrote.TheVariants.{Took, Failed, Memory}

-- The bytes that were taken, the most that a call takes, the numbers of the calls that are to fail,
-- the number of the next call, and how often a call has failed and has wanted memory.
pub record SinkState : Type 0 where
  pub written : List ℕ
  pub piece : ℕ
  pub listed : List ℕ
  pub calls : ℕ
  pub faults : ℕ
  pub wants : ℕ

-- The answer to so many offered bytes, where memory is not wanting.
abbrev pub write_answer : SinkState → ℕ → Wrote
write_answer sink offered =
    if is_listed sink.listed sink.calls then Failed else Took (min sink.piece offered)

-- The sink after a call that gave this answer.
abbrev pub after_write : Wrote → List ℕ → SinkState → SinkState
after_write (Took n) piece sink =
    record sink { written = sink.written ++ take n piece; calls = raised sink.calls }
after_write Failed piece sink =
    record sink { calls = raised sink.calls; faults = raised sink.faults }
after_write Memory piece sink =
    record sink { calls = raised sink.calls; wants = raised sink.wants }
