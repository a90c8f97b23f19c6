use Rattle.std.proofs.Common.{◌≡◌, ◌<◌, ◌+◌, ℕ, ℤ, length}
use Rattle.std.specs.Prelude.{Some, slice_get}
use Rattle.ldp_stretch.specs.Hulls.{HoldsColumn, IsLonger}
use Rattle.ldp_stretch.proofs.hull.push_hull.Given as goal

abbrev pub invariant-loop-place : goal.invariant-loop-place
invariant-loop-place l = record {
  longer : IsLonger l.fn.ranges.items l.ranges.items;
  count : length l.ranges.items ≡ l.begin + l.place;
  holds :
      (k : ℕ) (r : ℤ × ℤ) → k < l.place → slice_get l.ranges.items (l.begin + k) ≡ Some r
      → HoldsColumn l.prepared.results l.node.from l.node.to k r;
}
