-- Groups of steps on GRS 80. (GRS 80: a = 6378137 m, 1/f = 298.257222101; Snyder, Map Projections:
-- A Working Manual, USGS PP 1395, chapters 3, 4 and 15.)
use Rattle.std.specs.Prelude.{ℕ, ◌-◌, ◌*◌, ◌^◌}
use Rattle.ldp_series.specs.Draft.{Formula}
use Rattle.ldp_series.specs.Formula.{answer, #, fraction, whole, ◌+ᶠ◌, ◌-ᶠ◌, ◌*ᶠ◌, ◌/ᶠ◌, square, √}
use Rattle.ldp_series.specs.Formula.{◌>>=◌}
use Rattle.ldp_series.specs.Series.{sine, cosine, logarithm}
use Rattle.ldp_ellipsoid.specs.declared.places.Geo.{Geo}

-- 1/f, in units of 10^-9
abbrev pub inverse_flattening : ℕ
inverse_flattening = 298257222101

-- e² = 2f - f², the square of the first eccentricity, rounded down: with f = 10⁹ / F it is (2 F 10⁹
-- - 10¹⁸) / F²
abbrev pub eccentricity_squared : Formula ℕ
eccentricity_squared =
    fraction (2 * inverse_flattening * 10 ^ 9 - 10 ^ 18) (inverse_flattening * inverse_flattening)

-- e'² = e² / (1 - e²), the square of the second eccentricity
unfoldable pub second_eccentricity_squared : Formula ℕ
second_eccentricity_squared = eccentricity_squared /ᶠ (whole 1 -ᶠ eccentricity_squared)

-- √(1 - e²), the semi-minor axis over the semi-major axis
unfoldable pub axis_ratio : Formula ℕ
axis_ratio = √ (whole 1 -ᶠ eccentricity_squared)

-- sine and cosine of the latitude, and 1 - e² sin²φ
unfoldable pub geo : ℕ → Formula Geo
geo latitude = do
  s ← sine latitude
  c ← cosine latitude
  w ← whole 1 -ᶠ eccentricity_squared *ᶠ square (# s)
  answer record { s = s; c = c; w = w }

-- m = cos φ / √(1 - e² sin²φ), the radius of the parallel over the semi-major axis (Snyder,
-- equation 14-15)
unfoldable pub meridian : Geo → Formula ℕ
meridian g = # g.c /ᶠ √ (# g.w)

-- artanh x = ln ((1 + x) / (1 - x)) / 2
unfoldable pub hyperbolic_arctangent : ℕ → Formula ℕ
hyperbolic_arctangent x = do
  ratio ← (whole 1 +ᶠ # x) /ᶠ (whole 1 -ᶠ # x)
  logarithm ratio /ᶠ whole 2

-- the isometric latitude q = artanh s - e artanh (e s) of s = sin φ, which is -ln t (Snyder,
-- equations 3-7 and 15-9)
unfoldable pub isometric : ℕ → Formula ℕ
isometric s = do
  sphere ← hyperbolic_arctangent s
  e ← √ eccentricity_squared
  t ← # e *ᶠ # s
  # sphere -ᶠ # e *ᶠ hyperbolic_arctangent t

-- R / (R + h), with R the geometric mean radius of curvature over the semi-major axis, √(1 - e²) /
-- (1 - e² sin²φ), and h the height over it (NOAA SP NOS NGS 13)
unfoldable pub ground_factor : ℕ → ℕ → Formula ℕ
ground_factor w eta = do
  radius ← axis_ratio /ᶠ # w
  # radius /ᶠ (# radius +ᶠ # eta)
