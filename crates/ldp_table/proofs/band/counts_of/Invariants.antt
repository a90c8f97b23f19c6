use Rattle.std.proofs.Common.{◌≡◌, ℕ, ◌<◌, ◌≤◌, length, get_or, take}
use Rattle.ldp_table.specs.Bands.{count_in}
use Rattle.ldp_table.proofs.band.counts_of.Given as goal

abbrev pub invariant-loop-row : goal.invariant-loop-row
invariant-loop-row l = record {
  counts : (k : ℕ) → k < 6 → get_or l.counts k 0 ≡ count_in (take l.row-index l.rows) k;
  few : (k : ℕ) → k < 6 → get_or l.counts k 0 ≤ l.row-index;
  six : length l.counts ≡ 6;
}
