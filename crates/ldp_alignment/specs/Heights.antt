-- The height between the centres of a grid's places: bilinear interpolation, where each place has a
-- weight that falls off to 0 at the centres next to it.
use Rattle.std.specs.Prelude.{ℕ, zero, suc, ◌+◌, ◌-◌, ◌*◌, ◌/◌, ◌<◌, ◌≡◌, nat_lt, ℤ, pos, negsuc}
use Rattle.std.specs.Prelude.{◌+ℤ◌, ◌-ℤ◌, ◌*ℤ◌, unsigned_abs, Option, Some, None}
use Rattle.std.specs.Prelude.{if◌then◌else◌}
use Rattle.std.specs.Ordering.{int_eq}
use Rattle.ldp_num.specs.Plain.{floor_div}
use Rattle.ldp_heights.specs.Grid.{HeightGrid, IsHeightGrid, place_height, centre_x, centre_y}

-- f 0 + .. + f (n - 1)
abbrev pub total : (ℕ → ℤ) → ℕ → ℤ
total f zero = pos 0
total f (suc n) = total f n +ℤ f n

-- by how much the spacing is greater than the distance of a centre, or 0 where it is not
abbrev pub reach : ℕ → ℤ → ℤ → ℕ
reach spacing at centre = spacing - unsigned_abs (at -ℤ centre)

-- the weight of a place at the point (x, y)
abbrev pub weight : HeightGrid → ℤ → ℤ → ℕ → ℕ → ℕ
weight grid x y row column =
    reach grid.spacing y (centre_y grid row) * reach grid.spacing x (centre_x grid column)

-- 1 for a height, and 0 for a missing one
abbrev pub presence : Option ℤ → ℤ
presence None = pos 0
presence (Some height) = pos 1

-- the height, and 0 for a missing one
abbrev pub height_or_zero : Option ℤ → ℤ
height_or_zero None = pos 0
height_or_zero (Some height) = height

-- the weight of a place times what is told of its height
abbrev pub place_share : (Option ℤ → ℤ) → HeightGrid → ℤ → ℤ → ℕ → ℕ → ℤ
place_share told grid x y row column =
    pos (weight grid x y row column) *ℤ told (place_height grid row column)

-- the same for a row that is counted from 0 in the south
abbrev pub share : (Option ℤ → ℤ) → HeightGrid → ℤ → ℤ → ℕ → ℕ → ℤ
share told grid x y south column = place_share told grid x y (grid.rows - 1 - south) column

-- the sum over all places of the grid of the weight times what is told of the height
unfoldable pub sum_over : (Option ℤ → ℤ) → HeightGrid → ℤ → ℤ → ℤ
sum_over told grid x y = total (λ south. total (share told grid x y south) grid.cols) grid.rows

-- the sum of heights over that of the weights, rounded down, where the weights make up the whole
abbrev pub mean : ℕ → ℤ → ℤ → Option ℤ
mean whole weights heights =
    if int_eq weights (pos whole) then Some (floor_div heights whole) else None

-- the height at the point (x, y): where the weights of the places that have a height add up to the
-- square of the spacing, the sum of weight times height over that square, rounded down
unfoldable pub height_at : HeightGrid → ℤ → ℤ → Option ℤ
height_at grid x y =
    mean (grid.spacing * grid.spacing) (sum_over presence grid x y) (sum_over height_or_zero grid x y)

-- The four places that have a weight.

-- the number of whole spacings in a distance; none in one that is below 0
abbrev pub places_before : ℕ → ℤ → ℕ
places_before spacing (pos distance) = distance / spacing
places_before spacing (negsuc distance) = 0

-- the longitude of the west column's centres
abbrev pub west : HeightGrid → ℤ
west grid = centre_x grid 0

-- the latitude of the south row's centres
abbrev pub south : HeightGrid → ℤ
south grid = centre_y grid (grid.rows - 1)

-- f i, where i is one of the first n numbers, and 0 beyond them
abbrev pub within : (ℕ → ℤ) → ℕ → ℕ → ℤ
within f n i = if nat_lt i n then f i else pos 0

-- the share of a column and of the next in a row, counted from the south; a column off the grid has
-- none
abbrev pub two_shares : (Option ℤ → ℤ) → HeightGrid → ℤ → ℤ → ℕ → ℕ → ℤ
two_shares told grid x y column row =
    within (share told grid x y row) grid.cols column
    +ℤ within (share told grid x y row) grid.cols (column + 1)

-- the shares of two columns in a row, counted from the south, and in the next; a row off the grid
-- has none
abbrev pub four_shares : (Option ℤ → ℤ) → HeightGrid → ℤ → ℤ → ℕ → ℕ → ℤ
four_shares told grid x y row column =
    within (two_shares told grid x y column) grid.rows row
    +ℤ within (two_shares told grid x y column) grid.rows (row + 1)

-- the sum over all places is that over the four about the point, whatever is told of the heights
abbrev pub FourAreEnough : Type 0
FourAreEnough = (told : Option ℤ → ℤ) (grid : HeightGrid) (x y : ℤ) → 0 < grid.spacing
    → sum_over told grid x y
    ≡ four_shares told grid x y (places_before grid.spacing (y -ℤ south grid))
    (places_before grid.spacing (x -ℤ west grid))

-- at a centre that has a height it is that height
abbrev pub ExactAtCentres : Type 0
ExactAtCentres = (grid : HeightGrid) (row column : ℕ) (height : ℤ) → IsHeightGrid grid
    → row < grid.rows → column < grid.cols → place_height grid row column ≡ Some height
    → height_at grid (centre_x grid column) (centre_y grid row) ≡ Some height
