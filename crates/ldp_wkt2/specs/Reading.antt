-- Reading a line: its system, or where its first piece begins that does not fit. A line has these
-- pieces in order: the text before the method's name; the text up to the first value, by the kind;
-- then each value, and the text up to the next one; last, the text behind the last value.
use Rattle.std.specs.Prelude.{◌≡◌, ℕ, ◌-◌, ◌==◌, ◌||◌, ◌&&◌, nat_le, Bool, true, false, ℤ, pos}
use Rattle.std.specs.Prelude.{unsigned_abs, List, [], ◌∷◌, ◌++◌, length, take, drop, find}
use Rattle.std.specs.Prelude.{Option, Some, None, is_some, option_and_then, Result, Ok, Err}
use Rattle.std.specs.Prelude.{if◌then◌else◌}
use Rattle.std.specs.List.{prefix_len}
use Rattle.std.specs.Ordering.{int_eq}
use Rattle.ldp_quantity.specs.Quantity.{tenths}
use Rattle.ldp_spelling.specs.Numbers.{trimmed_in}
use Rattle.ldp_design.specs.declared.family.Kind.{Kind}
use Rattle.ldp_design.specs.declared.family.Kind.TheVariants.{Tm, Lambert, Hotine, Lambert2}
use Rattle.ldp_design.specs.declared.key.Key.{Key}
use Rattle.ldp_design.specs.declared.key.Key.TheVariants as keys
use Rattle.ldp_design.specs.declared.key_range.KeyRange.{KeyRange}
use Rattle.ldp_design.specs.KeyRanges.{range_of}
use Rattle.ldp_wkt2.specs.declared.crs.Crs.{Crs}
use Rattle.ldp_wkt2.specs.declared.fault.CrsFault.{CrsFault}
use Rattle.ldp_wkt2.specs.declared.fault.CrsFault.TheVariants.{NotThisProfile}
use Rattle.ldp_wkt2.specs.declared.parameter.Parameter.{Parameter}
use Rattle.ldp_wkt2.specs.declared.parameter.Parameter.TheVariants as are
use Rattle.ldp_wkt2.specs.Profile.{row_of, parameters_of}
use Rattle.ldp_wkt2.specs.Lines.{start, end, method_text, before, behind, crs_text}
use Rattle.ldp_wkt2.specs.Values.{IsCrs}

-- a piece of a line
pub data Piece : Type 0 where
  Fixed : List ℕ → Piece
  Value : Parameter → Piece

-- the pieces from a front on
abbrev pub pieces_from : List ℕ → List Parameter → List Piece
pieces_from front [] = Fixed (front ++ end) ∷ []
pieces_from front (p ∷ ps) = Fixed (front ++ before p) ∷ Value p ∷ pieces_from (behind p) ps

-- the pieces behind the first one
abbrev pub pieces_of : Kind → List Piece
pieces_of kind = pieces_from (method_text kind) (parameters_of kind)

-- what follows a front, where the text begins with it
abbrev pub rest_behind : List ℕ → List ℕ → Option (List ℕ)
rest_behind [] text = Some text
rest_behind (b ∷ bs) [] = None
rest_behind (b ∷ bs) (c ∷ cs) = if b == c then rest_behind bs cs else None

-- a digit, a minus or a point
abbrev pub is_value : ℕ → Bool
is_value byte = (nat_le 48 byte && nat_le byte 57) || ((byte == 45) || (byte == 46))

-- the longest run of such bytes in front
abbrev pub run : List ℕ → List ℕ
run text = take (prefix_len is_value text) text

-- what follows the longest run of them
abbrev pub behind_run : List ℕ → List ℕ
behind_run text = drop (prefix_len is_value text) text

-- a value that is at least as far from 0 as the range asks; None if it is nearer
abbrev pub far_enough : KeyRange → ℤ → Option ℤ
far_enough range z = if nat_le range.least (unsigned_abs z) then Some z else None

-- the number of the range whose one spelling this is
abbrev pub number_in : KeyRange → List ℕ → Option ℤ
number_in range text =
    option_and_then (far_enough range) (trimmed_in range.places range.low range.high text)

-- a system before any parameter is read
abbrev pub blank : Kind → Crs
blank kind = record {
  kind = kind;
  lat = pos 0;
  lon = pos 0;
  azimuth = pos 0;
  scale = tenths 10;
  origin = pos 0;
  easting = pos 0;
  northing = pos 0;
}

-- the system with another value of a key; a key that has no number changes nothing
abbrev pub with_value : Key → ℤ → Crs → Crs
with_value keys.Lat z c = record c { lat = z }
with_value keys.Lat2 z c = record c { azimuth = z }
with_value keys.Lon z c = record c { lon = z }
with_value keys.Azimuth z c = record c { azimuth = z }
with_value keys.Scale z c = record c { scale = z }
with_value keys.Origin z c = record c { origin = z }
with_value keys.Easting z c = record c { easting = z }
with_value keys.Northing z c = record c { northing = z }
with_value keys.Top z c = c
with_value keys.Family z c = c
with_value keys.Kind z c = c

-- the rectified angle stands behind the azimuth
abbrev pub is_rectified : Parameter → Bool
is_rectified are.RectifiedToSkew = true
is_rectified _ = false

-- the system with the number of a parameter; the rectified angle must be the azimuth
abbrev pub with_number : Parameter → Crs → ℤ → Option Crs
with_number p c z =
    if is_rectified p then (if int_eq z c.azimuth then Some c else None)
    else Some (with_value (row_of p).key z c)

-- the system with the value that a text gives a parameter; None if it gives none
abbrev pub valued : Parameter → Crs → List ℕ → Option Crs
valued p c text =
    option_and_then (with_number p c) (number_in (range_of (row_of p).key c.kind) text)

-- a fault at what is left of a text of so many bytes
abbrev pub misfit : ℕ → List ℕ → CrsFault
misfit size left = NotThisProfile (size - length left)

-- goes on where the piece fits that what is left begins with
abbrev pub fitted : {A : Type 0} → ℕ → List ℕ → Option A → (A → Result Crs CrsFault)
    → Result Crs CrsFault
fitted size left None go = Err (misfit size left)
fitted size left (Some a) go = go a

-- the system, if nothing is left behind the last piece; the whole text has so many bytes
abbrev pub ended : ℕ → Crs → List ℕ → Result Crs CrsFault
ended size c [] = Ok c
ended size c (b ∷ bs) = Err (misfit size (b ∷ bs))

-- the system that the pieces of what is left give
abbrev pub read_pieces : ℕ → Crs → List ℕ → List Piece → Result Crs CrsFault
read_pieces size c left [] = ended size c left
read_pieces size c left (Fixed text ∷ pieces) =
    fitted size left (rest_behind text left) (λ rest. read_pieces size c rest pieces)
read_pieces size c left (Value p ∷ pieces) =
    fitted size left (valued p c (run left)) (λ d. read_pieces size d (behind_run left) pieces)

-- whether what is left begins with the method of this kind
abbrev pub has_method : List ℕ → Kind → Bool
has_method left kind = is_some (rest_behind (method_text kind) left)

-- the kind whose method stands there
unfoldable pub kind_at : List ℕ → Option Kind
kind_at left = find (has_method left) (Tm ∷ Lambert ∷ Hotine ∷ Lambert2 ∷ [])

-- the system of what is left of a text of so many bytes, from the name of the method on
abbrev pub read_method : ℕ → List ℕ → Result Crs CrsFault
read_method size left =
    fitted size left (kind_at left) (λ kind. read_pieces size (blank kind) left (pieces_of kind))

-- the system of a line, or the fault of a text: this is what `read_crs` answers
unfoldable pub crs : List ℕ → Result Crs CrsFault
crs text = fitted (length text) text (rest_behind start text) (read_method (length text))

-- the text is the line of a system
pub record IsLineOf (text : List ℕ) (c : Crs) : Type 0 where
  pub is : IsCrs c
  pub same : text ≡ crs_text c
