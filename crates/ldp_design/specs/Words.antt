-- The words of kinds, keys and axes in the texts of this project (own choice of this project).
use Rattle.std.specs.Prelude.{ℕ, List, Option, Some, None, codes, bytes_eq, if◌then◌else◌}
use Rattle.ldp_design.specs.declared.axis.AxisName.{AxisName}
use Rattle.ldp_design.specs.declared.axis.AxisName.TheVariants.{Lat, Lon, Azimuth, Scale}
use Rattle.ldp_design.specs.declared.family.Kind.{Kind}
use Rattle.ldp_design.specs.declared.family.Kind.TheVariants.{Tm, Lambert, Hotine, Lambert2}
use Rattle.ldp_design.specs.declared.key.Key.{Key}
use Rattle.ldp_design.specs.declared.key.Key.TheVariants as keys

-- the word of a kind
abbrev pub kind_text : Kind → List ℕ
kind_text Tm = codes "tm"
kind_text Lambert = codes "lambert"
kind_text Hotine = codes "hotine"
kind_text Lambert2 = codes "lambert2"

-- the kind of a word
abbrev pub kind_named : List ℕ → Option Kind
kind_named word =
    if bytes_eq word (kind_text Tm) then Some Tm
    else if bytes_eq word (kind_text Lambert) then Some Lambert
    else if bytes_eq word (kind_text Hotine) then Some Hotine
    else if bytes_eq word (kind_text Lambert2) then Some Lambert2
    else None

-- the word of a key; the whole text, which no text names, is told as `top`
abbrev pub key_text : Key → List ℕ
key_text keys.Top = codes "top"
key_text keys.Family = codes "family"
key_text keys.Kind = codes "kind"
key_text keys.Lat = codes "lat"
key_text keys.Lat2 = codes "lat2"
key_text keys.Lon = codes "lon"
key_text keys.Azimuth = codes "azimuth"
key_text keys.Scale = codes "k0"
key_text keys.Origin = codes "origin"
key_text keys.Easting = codes "easting"
key_text keys.Northing = codes "northing"

-- the word of an axis is that of its key
abbrev pub axis_text : AxisName → List ℕ
axis_text Lat = key_text keys.Lat
axis_text Lon = key_text keys.Lon
axis_text Azimuth = key_text keys.Azimuth
axis_text Scale = key_text keys.Scale

-- the axis of a word
abbrev pub axis_named : List ℕ → Option AxisName
axis_named word =
    if bytes_eq word (axis_text Lat) then Some Lat
    else if bytes_eq word (axis_text Lon) then Some Lon
    else if bytes_eq word (axis_text Azimuth) then Some Azimuth
    else if bytes_eq word (axis_text Scale) then Some Scale
    else None
