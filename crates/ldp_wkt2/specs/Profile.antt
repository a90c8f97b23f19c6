-- The methods and parameters of the profile, with their names and code numbers in the EPSG
-- register. (Coordinate conversions of ISO 19162; the choice of methods is this project's own, and
-- nothing is claimed of what the register says of a name or a number.)
use Rattle.std.specs.Prelude.{ℕ, List, [], ◌∷◌, codes}
use Rattle.ldp_design.specs.declared.family.Kind.{Kind}
use Rattle.ldp_design.specs.declared.family.Kind.TheVariants.{Tm, Lambert, Hotine, Lambert2}
use Rattle.ldp_design.specs.declared.key.Key.{Key}
use Rattle.ldp_design.specs.declared.key.Key.TheVariants as keys
use Rattle.ldp_wkt2.specs.declared.parameter.Parameter.{Parameter}
use Rattle.ldp_wkt2.specs.declared.parameter.Parameter.TheVariants as are

-- a method, with its name and code number
pub record Method : Type 0 where
  pub name : List ℕ
  pub code : List ℕ

-- the method with this name and code number
abbrev pub method : List ℕ → List ℕ → Method
method name code = record { name = name; code = code }

-- the method of the projection of each kind
abbrev pub method_of : Kind → Method
method_of Tm = method (codes "Transverse Mercator") (codes "9807")
method_of Lambert = method (codes "Lambert Conic Conformal (1SP)") (codes "9801")
method_of Hotine = method (codes "Hotine Oblique Mercator (variant B)") (codes "9815")
method_of Lambert2 = method (codes "Lambert Conic Conformal (2SP)") (codes "9802")

-- a parameter, with the key that its value has in design grids, its name and its code number
pub record Row : Type 0 where
  pub key : Key
  pub name : List ℕ
  pub code : List ℕ

-- the parameter with this key, name and code number
abbrev pub row : Key → List ℕ → List ℕ → Row
row key name code = record { key = key; name = name; code = code }

-- what the profile says of each parameter
abbrev pub row_of : Parameter → Row
row_of are.LatitudeOfNaturalOrigin =
    row keys.Lat (codes "Latitude of natural origin") (codes "8801")
row_of are.LongitudeOfNaturalOrigin =
    row keys.Lon (codes "Longitude of natural origin") (codes "8802")
row_of are.ScaleAtNaturalOrigin =
    row keys.Scale (codes "Scale factor at natural origin") (codes "8805")
row_of are.FalseEasting = row keys.Easting (codes "False easting") (codes "8806")
row_of are.FalseNorthing = row keys.Northing (codes "False northing") (codes "8807")
row_of are.LatitudeOfCentre = row keys.Lat (codes "Latitude of projection centre") (codes "8811")
row_of are.LongitudeOfCentre = row keys.Lon (codes "Longitude of projection centre") (codes "8812")
row_of are.AzimuthAtCentre = row keys.Azimuth (codes "Azimuth at projection centre") (codes "8813")
row_of are.RectifiedToSkew =
    row keys.Azimuth (codes "Angle from Rectified to Skew Grid") (codes "8814")
row_of are.ScaleAtCentre =
    row keys.Scale (codes "Scale factor at projection centre") (codes "8815")
row_of are.EastingAtCentre = row keys.Easting (codes "Easting at projection centre") (codes "8816")
row_of are.NorthingAtCentre =
    row keys.Northing (codes "Northing at projection centre") (codes "8817")
row_of are.LatitudeOfFalseOrigin =
    row keys.Origin (codes "Latitude of false origin") (codes "8821")
row_of are.LongitudeOfFalseOrigin = row keys.Lon (codes "Longitude of false origin") (codes "8822")
row_of are.FirstParallel = row keys.Lat (codes "Latitude of 1st standard parallel") (codes "8823")
row_of are.SecondParallel =
    row keys.Lat2 (codes "Latitude of 2nd standard parallel") (codes "8824")
row_of are.EastingAtFalseOrigin = row keys.Easting (codes "Easting at false origin") (codes "8826")
row_of are.NorthingAtFalseOrigin =
    row keys.Northing (codes "Northing at false origin") (codes "8827")

-- the parameters of a projection with a natural origin, in the order of the line
abbrev pub natural_origin : List Parameter
natural_origin =
    are.LatitudeOfNaturalOrigin ∷ are.LongitudeOfNaturalOrigin ∷ are.ScaleAtNaturalOrigin
    ∷ are.FalseEasting ∷ are.FalseNorthing ∷ []

-- the parameters of each kind, in the order of the line
abbrev pub parameters_of : Kind → List Parameter
parameters_of Tm = natural_origin
parameters_of Lambert = natural_origin
parameters_of Hotine =
    are.LatitudeOfCentre ∷ are.LongitudeOfCentre ∷ are.AzimuthAtCentre ∷ are.RectifiedToSkew
    ∷ are.ScaleAtCentre ∷ are.EastingAtCentre ∷ are.NorthingAtCentre ∷ []
parameters_of Lambert2 =
    are.LatitudeOfFalseOrigin ∷ are.LongitudeOfFalseOrigin ∷ are.FirstParallel
    ∷ are.SecondParallel ∷ are.EastingAtFalseOrigin ∷ are.NorthingAtFalseOrigin ∷ []

-- the unit of an angle
abbrev pub degree_unit : List ℕ
degree_unit = codes "ANGLEUNIT[\"degree\",0.0174532925199433]"

-- the unit in which the value of a key is written; a key without numbers has that of an angle
abbrev pub unit_of : Key → List ℕ
unit_of keys.Scale = codes "SCALEUNIT[\"unity\",1]"
unit_of keys.Easting = codes "LENGTHUNIT[\"metre\",1]"
unit_of keys.Northing = codes "LENGTHUNIT[\"metre\",1]"
unit_of keys.Top = degree_unit
unit_of keys.Family = degree_unit
unit_of keys.Kind = degree_unit
unit_of keys.Lat = degree_unit
unit_of keys.Lat2 = degree_unit
unit_of keys.Lon = degree_unit
unit_of keys.Azimuth = degree_unit
unit_of keys.Origin = degree_unit
