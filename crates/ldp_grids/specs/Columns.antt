-- What a family of design grids has at each key, by its kind. A family is a table of a TOML 1.1
-- document; the keys and their forms are this project's own choice.
use Rattle.std.specs.Prelude.{ℕ, Bool, true, false, ◌&&◌, List, [], ◌∷◌, bytes_eq}
use Rattle.std.specs.List.{list_any}
use Rattle.ldp_design.specs.declared.family.Kind.{Kind}
use Rattle.ldp_design.specs.declared.key.Key.{Key}
use Rattle.ldp_design.specs.declared.key.Key.TheVariants as keys
use Rattle.ldp_grids.specs.declared.column.Form.{Form}
use Rattle.ldp_grids.specs.declared.column.Form.TheVariants.{Never, Single, Axis, Optional}
use Rattle.ldp_design.specs.Kinds.{by_kind}
use Rattle.ldp_design.specs.Words.{key_text}

-- for each key, what a family of kind tm, lambert, hotine and lambert2 has there
abbrev pub form_of : Key → Kind → Form
form_of keys.Kind = by_kind Single Single Single Single
form_of keys.Lat = by_kind Single Axis Axis Axis
form_of keys.Lat2 = by_kind Never Never Never Axis
form_of keys.Lon = by_kind Axis Single Axis Single
form_of keys.Azimuth = by_kind Never Never Axis Never
form_of keys.Scale = by_kind Axis Axis Axis Never
form_of keys.Origin = by_kind Never Never Never Single
form_of keys.Easting = by_kind Optional Optional Optional Optional
form_of keys.Northing = by_kind Optional Optional Optional Optional
form_of keys.Top = by_kind Never Never Never Never
form_of keys.Family = by_kind Never Never Never Never

-- a key of this form may stand in a family
abbrev pub stands : Form → Bool
stands Never = false
stands Single = true
stands Axis = true
stands Optional = true

-- the keys that the table of a family may have, of all kinds
abbrev pub family_keys : List Key
family_keys =
    keys.Kind ∷ keys.Lat ∷ keys.Lat2 ∷ keys.Lon ∷ keys.Azimuth ∷ keys.Scale
    ∷ keys.Origin ∷ keys.Easting ∷ keys.Northing ∷ []

-- a family of the kind may have a key of this name
abbrev pub is_family_key : Kind → List ℕ → Bool
is_family_key kind name =
    list_any (λ key. bytes_eq name (key_text key) && stands (form_of key kind)) family_keys
