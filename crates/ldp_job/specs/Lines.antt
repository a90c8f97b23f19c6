-- What the lines before the forest say.
use Rattle.std.specs.Prelude.{ℕ, ℤ, pos, neg_ℤ, List, [], ◌∷◌, Option, Some, None, codes}
use Rattle.ldp_quantity.specs.Quantity.{degrees, tenths}
use Rattle.ldp_num.specs.Number.{limit}
use Rattle.ldp_spelling.specs.Numbers.{whole_in, trimmed_in, fixed_in}
use Rattle.ldp_spelling.specs.Hashes.{hash_in}
use Rattle.ldp_design.specs.declared.family.Kind.{Kind}
use Rattle.ldp_design.specs.declared.axis.AxisName.TheVariants.{Lat, Lon, Azimuth, Scale}
use Rattle.ldp_design.specs.declared.design.Design.{Design}
use Rattle.ldp_design.specs.Limits.{most_azimuth, most_tolerance}
use Rattle.ldp_design.specs.Words.{axis_text, kind_named}
use Rattle.ldp_job.specs.declared.share.Share.{Share}
use Rattle.ldp_job.specs.Values.{most}
use Rattle.ldp_job.specs.Words.{◌>>=◌, number_in, name_in, last_in, named_in}

-- the words `ldp job VERSION`, whatever the version is
unfoldable pub version_in : List (List ℕ) → Option ℕ
version_in ws = do
  a ← name_in (codes "ldp") ws
  b ← name_in (codes "job") a
  version ← number_in 0 most b
  last_in version.0 version.1

-- the words `design FAMILY LAT LON AZIMUTH K0`: the number of a family, from 1, and the index on
-- each axis, from 0
unfoldable pub design_in : List (List ℕ) → Option Design
design_in ws = do
  a ← name_in (codes "design") ws
  family ← number_in 1 65535 a
  lat ← number_in 0 most family.1
  lon ← number_in 0 most lat.1
  azimuth ← number_in 0 most lon.1
  scale ← number_in 0 most azimuth.1
  last_in record {
    family = family.0;
    lat = lat.0;
    lon = lon.0;
    azimuth = azimuth.0;
    scale = scale.0;
  } scale.1

-- the words `over CELLS beyond TOLERANCE`, the tolerance in units of 10^-15 and at most 10^15
unfoldable pub share_in : List (List ℕ) → Option Share
share_in ws = do
  a ← name_in (codes "over") ws
  over ← number_in 0 most a
  b ← name_in (codes "beyond") over.1
  tolerance ← number_in 0 most_tolerance b
  last_in record { over = over.0; tolerance = pos tolerance.0 } tolerance.1

-- a share, where words are left
unfoldable pub share_after : List (List ℕ) → Option (Option Share)
share_after [] = Some None
share_after (w ∷ ws) = share_in (w ∷ ws) >>= (λ share. Some (Some share))

-- the words `worst VALUE`, the value in units of 10^-15, and a share if words are left
unfoldable pub worst_in : List (List ℕ) → Option (ℤ × Option Share)
worst_in ws = do
  a ← name_in (codes "worst") ws
  worst ← number_in 0 limit a
  share ← share_after worst.1
  Some (pos worst.0, share)

-- the line `kind` with the name of a kind
abbrev pub kind_in : List (List ℕ) → Option Kind
kind_in ws = named_in (codes "kind") kind_named ws

-- the line `lat` with degrees from -80 to 80, in units of 10^-12 degrees
abbrev pub lat_in : List (List ℕ) → Option ℤ
lat_in ws = named_in (axis_text Lat) (trimmed_in 12 (neg_ℤ (degrees 80)) (degrees 80)) ws

-- the line `lon` with degrees from -180 to 360, in units of 10^-12 degrees
abbrev pub lon_in : List (List ℕ) → Option ℤ
lon_in ws = named_in (axis_text Lon) (trimmed_in 12 (neg_ℤ (degrees 180)) (degrees 360)) ws

-- the line `azimuth` with degrees from -85 to 85, in units of 10^-12 degrees; with two standard
-- parallels the second
abbrev pub azimuth_in : List (List ℕ) → Option ℤ
azimuth_in ws = named_in (axis_text Azimuth) (trimmed_in 12 (neg_ℤ most_azimuth) most_azimuth) ws

-- the line `k0` with a scale factor from 0.5 to 2, in units of 10^-15
abbrev pub scale_in : List (List ℕ) → Option ℤ
scale_in ws = named_in (axis_text Scale) (trimmed_in 15 (tenths 5) (tenths 20)) ws

-- the line `ppm` with the worst in parts per million and nine decimals, so in units of 10^-15
abbrev pub ppm_in : List (List ℕ) → Option ℤ
ppm_in ws = named_in (codes "ppm") (fixed_in 9 (pos 0) (pos limit)) ws

-- the words `at ROW COLUMN`, both from 0, of the cell of the worst
unfoldable pub at_in : List (List ℕ) → Option (ℕ × ℕ)
at_in ws = do
  a ← name_in (codes "at") ws
  row ← number_in 0 most a
  col ← number_in 0 most row.1
  last_in (row.0, col.0) col.1

-- the words `cells COUNT missing COUNT`: the cells, and the places in the zone without a height
unfoldable pub cells_in : List (List ℕ) → Option (ℕ × ℕ)
cells_in ws = do
  a ← name_in (codes "cells") ws
  cells ← number_in 0 most a
  b ← name_in (codes "missing") cells.1
  missing ← number_in 0 most b
  last_in (cells.0, missing.0) missing.1

-- the line `nodes` with the number of nodes of the forest
abbrev pub nodes_in : List (List ℕ) → Option ℕ
nodes_in ws = named_in (codes "nodes") (whole_in 0 most) ws

-- the line of a file, with its hash in hexadecimal digits
abbrev pub file_in : List ℕ → List (List ℕ) → Option (List ℕ)
file_in name ws = named_in name hash_in ws
