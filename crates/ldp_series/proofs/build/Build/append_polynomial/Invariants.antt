use Rattle.std.proofs.Common.{◌≡◌, ◌+◌, ◌-◌, ◌*◌, length, drop}
use Rattle.ldp_series.specs.Draft.{Extends}
use Rattle.ldp_series.specs.Series.{polynomial}
use Rattle.ldp_series.proofs.build.Build.append_polynomial.Given as goal

abbrev pub invariant-loop-i : goal.invariant-loop-i
invariant-loop-i l = record {
  count : length l.self.steps + 3 * l.i ≡ length l.fn.self.steps + (3 * length l.c - 2);
  last : l.r + 1 ≡ length l.self.steps;
  kept : Extends l.fn.self l.self;
  made : ◌≡◌ (l.self, l.r) (polynomial l.x (drop l.i l.c) l.fn.self);
}
