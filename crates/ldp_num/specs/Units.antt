-- How an input becomes a number.
use Rattle.std.specs.Prelude.{ℕ, ◌*◌, ◌^◌, ℤ, pos, ◌*ℤ◌}
use Rattle.ldp_num.specs.Number.{one}
use Rattle.ldp_num.specs.Plain.{floor_div}

-- pi in units, rounded down
abbrev pub pi : ℕ
pi = 3141592653589793

-- an angle of 10^-12 degrees in radian units, rounded down
abbrev pub radians_of : ℤ → ℤ
radians_of angle = floor_div (angle *ℤ pos pi) (180 * 10 ^ 12)

-- a height of millimetres over the semi-major axis of GRS 80, 6378137 m, in units, rounded down
abbrev pub height_number : ℤ → ℤ
height_number mm = floor_div (mm *ℤ pos one) (6378137 * 1000)
