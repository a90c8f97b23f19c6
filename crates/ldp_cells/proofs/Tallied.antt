-- What a tally keeps as places are taken.
use Rattle.std.proofs.Common.{◌≡◌, ℕ, ◌+◌, ◌<◌, List, [], ◌∷◌, ◌++◌, Option, Some, None, ℤ}
use Rattle.std.proofs.Common.{arith}
use Rattle.std.proofs.lemmas.List.{length_push}
use Rattle.std.proofs.lemmas.List.Elements.{All-push}
use Rattle.ldp_heights.specs.Grid.{HeightGrid, place_height}
use Rattle.ldp_cells.specs.Range.{IsInRange, HasGridHeight}
use Rattle.ldp_cells.specs.Tallies.{Tally, IsKept, with_height, with_place}
use Rattle.ldp_cells.specs.declared.cell.Cell.{Cell}

pub kept_more : (cells : List Cell) (count missing : ℕ) (cell : Cell)
    → IsKept record { cells = cells; count = count; missing = missing }
    → count < 200_000
    → IsInRange cell
    → HasGridHeight cell
    → IsKept record { cells = cells ++ cell ∷ []; count = count + 1; missing = missing }
kept_more cells count missing cell kept below near height = record {
  few = omega (arith, length_push cells cell, kept.few);
  most = omega (arith, length_push cells cell, kept.few);
  in_range = All-push IsInRange cells cell kept.in_range near;
  heights = All-push HasGridHeight cells cell kept.heights height;
}

pub kept_past : (cells : List Cell) (count missing : ℕ)
    → IsKept record { cells = cells; count = count; missing = missing }
    → IsKept record { cells = cells; count = count + 1; missing = missing }
kept_past cells count missing kept =
    record {
      few = omega (arith, kept.few);
      most = kept.most;
      in_range = kept.in_range;
      heights = kept.heights;
    }

counted_by : (grid : HeightGrid) (row col : ℕ) (height : Option ℤ) (tally : Tally)
    → (with_height grid row col height tally).count
    + (with_height grid row col height tally).missing
    ≡ tally.count + tally.missing + 1
counted_by grid row col None tally = omega arith
counted_by grid row col (Some mm) tally = omega arith

-- a place that is taken counts once
pub place_counted : (grid : HeightGrid) (row col : ℕ) (tally : Tally)
    → (with_place grid row col tally).count + (with_place grid row col tally).missing
    ≡ tally.count + tally.missing + 1
place_counted grid row col tally = counted_by grid row col (place_height grid row col) tally
