-- The coordinate reference systems that have a line, and the one of a design.
use Rattle.std.specs.Prelude.{◌≡◌, ℤ, pos, List, Option, option_map, IsTrue}
use Rattle.ldp_quantity.specs.Quantity.{tenths}
use Rattle.ldp_design.specs.declared.design.Design.{Design}
use Rattle.ldp_design.specs.declared.family.Family.{Family}
use Rattle.ldp_design.specs.declared.family.Kind.{Kind}
use Rattle.ldp_design.specs.declared.family.Kind.TheVariants.{Tm, Lambert, Hotine, Lambert2}
use Rattle.ldp_design.specs.Families.{family_of, value_at}
use Rattle.ldp_design.specs.declared.key.Key.{Key}
use Rattle.ldp_design.specs.declared.key.Key.TheVariants as keys
use Rattle.ldp_design.specs.KeyRanges.{range_of, is_in_range}
use Rattle.ldp_wkt2.specs.declared.crs.Crs.{Crs}

-- the value of a key; Crs keeps the second parallel where other kinds have the azimuth
abbrev pub value_of : Key → Crs → ℤ
value_of keys.Lat c = c.lat
value_of keys.Lat2 c = c.azimuth
value_of keys.Lon c = c.lon
value_of keys.Azimuth c = c.azimuth
value_of keys.Scale c = c.scale
value_of keys.Origin c = c.origin
value_of keys.Easting c = c.easting
value_of keys.Northing c = c.northing
value_of keys.Top c = pos 0
value_of keys.Family c = pos 0
value_of keys.Kind c = pos 0

-- a value that the key may have in a family of the kind
abbrev pub IsAllowed : Key → Kind → ℤ → Type 0
IsAllowed key kind z = IsTrue (is_in_range (range_of key kind) z)

-- the azimuth, the second parallel, or 0 where the kind has neither
abbrev pub IsThird : Kind → ℤ → Type 0
IsThird Tm z = z ≡ pos 0
IsThird Lambert z = z ≡ pos 0
IsThird Hotine z = IsAllowed keys.Azimuth Hotine z
IsThird Lambert2 z = IsAllowed keys.Lat2 Lambert2 z

-- 1 with two parallels
abbrev pub IsScaleOf : Kind → ℤ → Type 0
IsScaleOf Lambert2 z = z ≡ tenths 10
IsScaleOf Tm z = IsAllowed keys.Scale Tm z
IsScaleOf Lambert z = IsAllowed keys.Scale Lambert z
IsScaleOf Hotine z = IsAllowed keys.Scale Hotine z

-- 0 but with two parallels
abbrev pub IsOriginOf : Kind → ℤ → Type 0
IsOriginOf Lambert2 z = IsAllowed keys.Origin Lambert2 z
IsOriginOf Tm z = z ≡ pos 0
IsOriginOf Lambert z = z ≡ pos 0
IsOriginOf Hotine z = z ≡ pos 0

-- a system that has a line: each value is one that its key may have
pub record IsCrs (c : Crs) : Type 0 where
  pub lat : IsAllowed keys.Lat c.kind c.lat
  pub lon : IsAllowed keys.Lon c.kind c.lon
  pub azimuth : IsThird c.kind c.azimuth
  pub scale : IsScaleOf c.kind c.scale
  pub origin : IsOriginOf c.kind c.origin
  pub easting : IsAllowed keys.Easting c.kind c.easting
  pub northing : IsAllowed keys.Northing c.kind c.northing

-- the system of a design of a family
abbrev pub crs_at : Family → Design → Crs
crs_at f d = record {
  kind = f.kind;
  lat = value_at f.lat d.lat;
  lon = value_at f.lon d.lon;
  azimuth = value_at f.azimuth d.azimuth;
  scale = value_at f.scale d.scale;
  origin = f.origin;
  easting = f.easting;
  northing = f.northing;
}

-- the system of a design
abbrev pub crs_of : List Family → Design → Option Crs
crs_of families d = option_map (λ f. crs_at f d) (family_of families d.family)
