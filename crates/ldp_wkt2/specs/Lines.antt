-- The line of a coordinate reference system: a projected system in WKT2 (ISO 19162), in one layout
-- of this project's own choice.
use Rattle.std.specs.Prelude.{ℕ, ℤ, List, [], ◌∷◌, ◌++◌, codes}
use Rattle.std.specs.List.{flat_map}
use Rattle.ldp_decimal.specs.Writing.{trimmed_text}
use Rattle.ldp_design.specs.declared.family.Kind.{Kind}
use Rattle.ldp_design.specs.KeyRanges.{range_of}
use Rattle.ldp_wkt2.specs.declared.crs.Crs.{Crs}
use Rattle.ldp_wkt2.specs.declared.parameter.Parameter.{Parameter}
use Rattle.ldp_wkt2.specs.Profile.{method_of, row_of, parameters_of, unit_of}
use Rattle.ldp_wkt2.specs.Values.{value_of}

-- the text before the method's name
unfoldable pub start : List ℕ
start = codes "PROJCRS[\"LDP\",BASEGEOGCRS[\"GRS 80\",DATUM[\"GRS 80 datum\","
    ++ (codes "ELLIPSOID[\"GRS 1980\",6378137,298.257222101,LENGTHUNIT[\"metre\",1]]]],"
    ++ codes "CONVERSION[\"LDP\",METHOD[\"")

-- the text behind the last parameter, with the line feed
unfoldable pub end : List ℕ
end = codes "],CS[Cartesian,2],AXIS[\"easting (E)\",east],AXIS[\"northing (N)\",north],"
    ++ (codes "LENGTHUNIT[\"metre\",1]]" ++ 10 ∷ [])

-- `,ID["EPSG",code]]`, which closes a method or a parameter
abbrev pub id_text : List ℕ → List ℕ
id_text code = codes ",ID[\"EPSG\"," ++ (code ++ codes "]]")

-- a method from its name on
unfoldable pub method_text : Kind → List ℕ
method_text kind = (method_of kind).name ++ 34 ∷ id_text (method_of kind).code

-- a parameter up to its value
unfoldable pub before : Parameter → List ℕ
before p = codes ",PARAMETER[\"" ++ ((row_of p).name ++ codes "\",")

-- what follows the value of a parameter: its unit and its code number
unfoldable pub behind : Parameter → List ℕ
behind p = 44 ∷ (unit_of (row_of p).key ++ id_text (row_of p).code)

-- degrees with 12 places, the scale factor with 15, metres with 3, without zeros at the end
abbrev pub number_text : Kind → Parameter → ℤ → List ℕ
number_text kind p z = trimmed_text (range_of (row_of p).key kind).places z

-- a parameter with its value; that of the rectified angle is the azimuth
abbrev pub parameter_text : Crs → Parameter → List ℕ
parameter_text c p = before p ++ (number_text c.kind p (value_of (row_of p).key c) ++ behind p)

-- the line of a system
unfoldable pub crs_text : Crs → List ℕ
crs_text c =
    start ++ (method_text c.kind ++ (flat_map (parameter_text c) (parameters_of c.kind) ++ end))
