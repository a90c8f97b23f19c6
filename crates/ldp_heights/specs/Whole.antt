-- Texts of whole grids, as they are written: the pairs of the header in any order, then the
-- heights.
use Rattle.std.specs.Prelude.{◌≡◌, ℕ, ◌*◌, Bool, true, false, ℤ, List, [], ◌∷◌, ◌++◌, length}
use Rattle.std.specs.Prelude.{Option}
use Rattle.std.specs.Prelude.{Some, is_some, Ok, codes}
use Rattle.std.specs.List.{list_any}
use Rattle.std.specs.Str.{str_to_ascii_lowercase}
use Rattle.ldp_tokens.specs.Tokens.{Token, tokens_of}
use Rattle.ldp_heights.specs.Grid.{corner, centre}
use Rattle.ldp_heights.specs.Classes.{Class}
use Rattle.ldp_heights.specs.Header.{Name, ncols, nrows, xllcorner, xllcenter, yllcorner, yllcenter}
use Rattle.ldp_heights.specs.Header.{cellsize, nodata_value, Header, Layout, count_of}
use Rattle.ldp_heights.specs.Header.{coordinate_of}
use Rattle.ldp_heights.specs.Header.{spacing_of, nodata_of, layout_of}
use Rattle.ldp_heights.specs.Reading.{height_of}
use Rattle.ldp_heights.specs.declared.fault.Word.{Word}
use Rattle.ldp_heights.specs.declared.fault.Word.TheVariants.{Ncols, Nrows, X, Y, Cellsize, Nodata}

-- a word of a header with its value
pub record Pair : Type 0 where
  pub name : Name
  pub word : Token
  pub value : Token

-- the tokens of some pairs, each word before its value
abbrev pub pair_tokens : List Pair → List Token
pair_tokens [] = []
pair_tokens (pair ∷ pairs) = pair.word ∷ pair.value ∷ pair_tokens pairs

-- a word in small letters
abbrev pub small_letters : Name → List ℕ
small_letters ncols = codes "ncols"
small_letters nrows = codes "nrows"
small_letters xllcorner = codes "xllcorner"
small_letters xllcenter = codes "xllcenter"
small_letters yllcorner = codes "yllcorner"
small_letters yllcenter = codes "yllcenter"
small_letters cellsize = codes "cellsize"
small_letters nodata_value = codes "nodata_value"

-- both forms of a coordinate are one word
abbrev pub word_of : Name → Word
word_of ncols = Ncols
word_of nrows = Nrows
word_of xllcorner = X
word_of xllcenter = X
word_of yllcorner = Y
word_of yllcenter = Y
word_of cellsize = Cellsize
word_of nodata_value = Nodata

-- a value is read to the header's value for the word
abbrev pub Gives : Name → Token → Header → Type 0
Gives ncols value header = (n : ℕ) × (count_of value ≡ Ok n) × (header.ncols ≡ Some n)
Gives nrows value header = (n : ℕ) × (count_of value ≡ Ok n) × (header.nrows ≡ Some n)
Gives xllcorner value header = (x : ℤ) × (coordinate_of value ≡ Ok x) × (header.x ≡ Some (corner x))
Gives xllcenter value header = (x : ℤ) × (coordinate_of value ≡ Ok x) × (header.x ≡ Some (centre x))
Gives yllcorner value header = (y : ℤ) × (coordinate_of value ≡ Ok y) × (header.y ≡ Some (corner y))
Gives yllcenter value header = (y : ℤ) × (coordinate_of value ≡ Ok y) × (header.y ≡ Some (centre y))
Gives cellsize value header = (n : ℕ) × (spacing_of value ≡ Ok n) × (header.cellsize ≡ Some n)
Gives nodata_value value header =
    (class : Class) × (nodata_of value ≡ Ok class) × (header.nodata ≡ Some class)

-- the pair has its word, in any case, and the header's value
pub record IsPairOf (header : Header) (pair : Pair) : Type 0 where
  pub word : str_to_ascii_lowercase pair.word.bytes ≡ small_letters pair.name
  pub value : Gives pair.name pair.value header

-- whether two words of the header are one
abbrev pub same_word : Word → Word → Bool
same_word Ncols Ncols = true
same_word Nrows Nrows = true
same_word X X = true
same_word Y Y = true
same_word Cellsize Cellsize = true
same_word Nodata Nodata = true
same_word _ _ = false

-- whether a word is one of a list
abbrev pub is_among : Word → List Word → Bool
is_among word words = list_any (λ other. same_word word other) words

-- the header has a value for the word
abbrev pub is_given : Header → Word → Bool
is_given header Ncols = is_some header.ncols
is_given header Nrows = is_some header.nrows
is_given header X = is_some header.x
is_given header Y = is_some header.y
is_given header Cellsize = is_some header.cellsize
is_given header Nodata = is_some header.nodata

-- after these words, the pairs are the others of the header: none comes twice, and none is left out
abbrev pub ArePairsOf : Header → List Word → List Pair → Type 0
ArePairsOf header words [] =
    (word : Word) → is_given header word ≡ true → is_among word words ≡ true
ArePairsOf header words (pair ∷ pairs) =
    IsPairOf header pair
    × (is_among (word_of pair.name) words ≡ false)
    × ArePairsOf header (word_of pair.name ∷ words) pairs

-- each token is read to its height
abbrev pub AreHeights : Class → List Token → List (Option ℤ) → Type 0
AreHeights missing [] heights = heights ≡ []
AreHeights missing (token ∷ tokens) [] = ⊥
AreHeights missing (token ∷ tokens) (height ∷ heights) =
    (height_of missing token ≡ Ok height) × AreHeights missing tokens heights

-- the text has a whole header, whose words come once and in any order, and then all heights
pub record IsGridText (text : List ℕ) (layout : Layout) (heights : List (Option ℤ)) : Type 0 where
  pub header : Header
  pub pairs : List Pair
  pub tokens : List Token
  pub text_is : tokens_of [] text ≡ pair_tokens pairs ++ tokens
  pub pairs_are : ArePairsOf header [] pairs
  pub layout_is : layout_of header ≡ Ok layout
  pub heights_are : AreHeights layout.missing tokens heights
  pub each_place : length heights ≡ layout.cols * layout.rows
