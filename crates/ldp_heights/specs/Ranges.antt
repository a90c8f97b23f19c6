-- What the values of a header keep.
use Rattle.std.specs.Prelude.{ℕ, ◌*◌, ◌≤◌, neg_ℤ, IfSome}
use Rattle.ldp_quantity.specs.Between.{IsBetween}
use Rattle.ldp_heights.specs.Grid.{IsCoordinate, IsSpacing, most_places, metres}
use Rattle.ldp_heights.specs.Classes.{Class, millimetres}
use Rattle.ldp_heights.specs.Header.{Header, Layout}

-- a number of rows or of columns
abbrev pub IsCount : ℕ → Type 0
IsCount n = (1 ≤ n) × (n ≤ most_places)

-- millimetres of at most 100,000 m in absolute value, or a class without millimetres
abbrev pub IsClass : Class → Type 0
IsClass (millimetres n) = IsBetween (neg_ℤ (metres 100_000)) (metres 100_000) n
IsClass _ = Unit {0}

-- the values of the words that were met
pub record AreInRange (met : Header) : Type 0 where
  pub ncols : IfSome met.ncols IsCount
  pub nrows : IfSome met.nrows IsCount
  pub x : IfSome met.x IsCoordinate
  pub y : IfSome met.y IsCoordinate
  pub cellsize : IfSome met.cellsize IsSpacing

-- what the layout of a whole header keeps: at least one place, not too many, and coordinates in
-- range
pub record IsLayout (layout : Layout) : Type 0 where
  pub cols : 1 ≤ layout.cols
  pub rows : 1 ≤ layout.rows
  pub places : layout.cols * layout.rows ≤ most_places
  pub x : IsCoordinate layout.x
  pub y : IsCoordinate layout.y
  pub spacing : IsSpacing layout.spacing
