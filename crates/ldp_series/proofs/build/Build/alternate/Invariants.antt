use Rattle.std.proofs.Common.{◌≡◌, ◌+◌, ◌*◌, length, drop}
use Rattle.ldp_series.specs.Draft.{Extends}
use Rattle.ldp_series.specs.Series.{alternating}
use Rattle.ldp_series.proofs.build.Build.alternate.Given as goal

abbrev pub invariant-loop-divisor : goal.invariant-loop-divisor
invariant-loop-divisor l = record {
  count : length l.self.steps ≡ length l.fn.self.steps + 5 * l.divisor-index;
  last : l.r + 1 ≡ length l.self.steps;
  kept : Extends l.fn.self l.self;
  rest : alternating l.z (drop l.divisor-index l.divisors) l.r l.self
      ≡ alternating l.z l.divisors l.first l.fn.self;
}
