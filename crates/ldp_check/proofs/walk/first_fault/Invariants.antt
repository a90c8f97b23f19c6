use Rattle.std.proofs.Common.{◌≡◌, ◌+◌, length, drop}
use Rattle.ldp_design.specs.Forests.{start}
use Rattle.ldp_check.specs.Entries.{first_fault}
use Rattle.ldp_check.specs.Walks.{IsPlace}
use Rattle.ldp_check.specs.Stacks.{place}
use Rattle.ldp_check.proofs.walk.first_fault.Given as goal

abbrev pub invariant-loop-i : goal.invariant-loop-i
invariant-loop-i g l = record {
  rest : first_fault (g.B.Bounds.problem l.fn.bounds) l.printed (l.first + l.i) (drop l.i l.forest)
      (place l.trees l.stack)
      ≡ first_fault (g.B.Bounds.problem l.fn.bounds) l.printed l.first l.forest start;
  at : IsPlace (g.B.Bounds.problem l.fn.bounds).families l.i (place l.trees l.stack);
  room : l.stack.room ≡ l.fn.stack.room;
  end : l.i-end ≡ length l.forest;
  same : g.B.Bounds.problem l.bounds ≡ g.B.Bounds.problem l.fn.bounds;
}
