-- The inputs of `sample N`: a zone, heights over it, and a family of N times N designs. Own choice
-- of this project.
use Rattle.std.specs.Prelude.{ℕ, zero, suc, ◌+◌, ◌*◌, ◌/◌, ◌%◌, ◌^◌, ◌==◌, ◌≤◌, pos, neg_ℤ}
use Rattle.std.specs.Prelude.{List, [], ◌∷◌, ◌++◌, codes, decimal, if◌then◌else◌}
use Rattle.std.specs.List.{flat_map, range_with_len}
use Rattle.ldp_quantity.specs.Quantity.{degrees, tenths}
use Rattle.ldp_design.specs.declared.family.Kind.TheVariants.{Tm}
use Rattle.ldp_design.specs.declared.family.Family.{Family}
use Rattle.ldp_design.specs.Families.{single_axis}

-- the range of N
pub record IsSampleNumber (n : ℕ) : Type 0 where
  pub some : 1 ≤ n
  pub few : n ≤ 100_000

-- one degree from west to east, and three quarters of a degree from south to north
unfoldable pub sample_zone : List ℕ
sample_zone = codes "POLYGON ((-106 39.5, -105 39.5, -105 40.25, -106 40.25, -106 39.5))"

-- a grid over the zone: 12 rows of 16 places, each place a sixteenth of a degree wide
unfoldable pub sample_header : List ℕ
sample_header =
    codes "ncols 16\nnrows 12\nxllcorner -106\nyllcorner 39.5\ncellsize 0.0625\n"

-- a linear congruential generator, with the numbers of the example of `rand` in ISO/IEC 9899
abbrev pub next_state : ℕ → ℕ
next_state x = (1103515245 * x + 12345) % 2 ^ 31

-- the state of the generator after so many steps from a seed
abbrev pub state_after : ℕ → ℕ → ℕ
state_after seed zero = seed
state_after seed (suc steps) = next_state (state_after seed steps)

-- the height of a place in metres: 40 m more a column, and up to 99 m of the place's own
abbrev pub sample_height : ℕ → ℕ → ℕ
sample_height seed place =
    1000 + 40 * (place % 16) + state_after seed (place + 1) / 65536 % 100

-- a height and what stands behind it: a line feed at the end of a row, else a space
abbrev pub place_text : ℕ → ℕ → List ℕ
place_text seed place =
    decimal (sample_height seed place)
    ++ (if place % 16 == 15 then codes "\n" else codes " ")

-- the text of the grid; the places are numbered from 0, row by row from the north
unfoldable pub sample_grid : ℕ → List ℕ
sample_grid n = sample_header ++ flat_map (place_text n) (range_with_len 0 192)

-- transverse Mercator: N central meridians over two degrees, and N scale factors over 400 ppm
abbrev pub sample_family : ℕ → Family
sample_family n = record {
  kind = Tm;
  lat = single_axis (degrees 40);
  lon = record { from = neg_ℤ (degrees 107); step = pos (2 * 10 ^ 12 / n); count = n };
  azimuth = single_axis (pos 0);
  scale = record { from = tenths 10; step = pos (4 * 10 ^ 11 / n); count = n };
  origin = pos 0;
  easting = pos 0;
  northing = pos 0;
}

-- the design grids of the sample: this family alone
abbrev pub sample_families : ℕ → List Family
sample_families n = sample_family n ∷ []
