-- The point scale factor of the transverse Mercator projection, by Snyder, USGS PP 1395, chapter 8
-- (ellipsoid). The order of the steps and the stated domain, (λ - λ0)² ≤ 1/64, are this project's
-- own.
use Rattle.std.specs.Prelude.{ℕ, ℤ, pos, neg_ℤ, List, [], ◌∷◌}
use Rattle.ldp_ellipsoid.specs.Ellipsoid.{second_eccentricity_squared, geo, ground_factor}
use Rattle.ldp_series.specs.Draft.{Formula}
use Rattle.ldp_series.specs.Formula.{answer, #, whole, fraction, fraction_units, ◌+ᶠ◌, ◌-ᶠ◌, ◌*ᶠ◌}
use Rattle.ldp_series.specs.Formula.{◌/ᶠ◌, square, at_least_zero, ◌>>=◌}
use Rattle.ldp_series.specs.Series.{polynomial}
use Rattle.ldp_series.specs.StepList.{StepList, list_of}
use Rattle.ldp_series.specs.declared.list.Lists.{Lists}

-- T = tan²φ, from sin φ and cos φ
unfoldable pub tangent_squared : ℕ → ℕ → Formula ℕ
tangent_squared sine cosine = square (# sine /ᶠ # cosine)

-- (1 + C) / 2, the coefficient of A²
unfoldable pub second_power : ℕ → Formula ℕ
second_power c = (whole 1 +ᶠ # c) /ᶠ whole 2

-- (5 - 4T + 42C + 13C² - 28e'²) / 24, the coefficient of A⁴
unfoldable pub fourth_power : ℕ → ℕ → ℕ → Formula ℕ
fourth_power t c u =
    let numerator : Formula ℕ =
    whole 5 -ᶠ # t *ᶠ whole 4 +ᶠ # c *ᶠ (whole 42 +ᶠ # c *ᶠ whole 13) -ᶠ # u *ᶠ whole 28 in
    numerator /ᶠ whole 24

-- (61 - 148T + 16T²) / 720, the coefficient of A⁶, its constants rounded down
unfoldable pub sixth_power : ℕ → Formula ℕ
sixth_power t =
    let over_720 : ℤ → ℤ = λ p. fraction_units p 720 in
    polynomial t (over_720 (pos 61) ∷ over_720 (neg_ℤ (pos 148)) ∷ over_720 (pos 16) ∷ [])

-- what a cell gives, from its latitude φ, longitude λ and height number η: λ, cos φ, the three
-- coefficients of the scale factor, and the ground factor
unfoldable pub cell_formula : ℕ → ℕ → ℕ → Formula (List ℕ)
cell_formula latitude longitude eta = do
  g ← geo latitude
  t ← tangent_squared g.s g.c
  u ← second_eccentricity_squared
  -- C = e'² cos²φ
  c ← # u *ᶠ square (# g.c)
  a1 ← second_power c
  a2 ← fourth_power t c u
  a3 ← sixth_power t
  factor ← ground_factor g.w eta
  answer (longitude ∷ g.c ∷ a1 ∷ a2 ∷ a3 ∷ factor ∷ [])

-- what a design gives: its central meridian λ0 and its scale factor k0
abbrev pub design_formula : ℕ → ℕ → ℕ → ℕ → Formula (List ℕ)
design_formula latitude longitude azimuth scale = answer (longitude ∷ scale ∷ [])

-- need (1/64 - d²): the stated domain
unfoldable pub within_domain : ℕ → Formula ℕ
within_domain d = at_least_zero (fraction 1 64 -ᶠ square (# d))

-- the scale factor over k0, with z = A²: 1 + (1 + C) A²/2 + .. A⁴/24 + .. A⁶/720
unfoldable pub scale_ratio : ℕ → ℕ → ℕ → ℕ → Formula ℕ
scale_ratio z a1 a2 a3 = whole 1 +ᶠ # z *ᶠ (# a1 +ᶠ # z *ᶠ (# a2 +ᶠ # z *ᶠ # a3))

-- the places of what a design and a cell give: λ0 and k0; λ, cos φ, the three coefficients and the
-- ground factor
pub record Given : Type 0 where
  pub l0 : ℕ
  pub k0 : ℕ
  pub l : ℕ
  pub c : ℕ
  pub a1 : ℕ
  pub a2 : ℕ
  pub a3 : ℕ
  pub factor : ℕ

-- the linear distortion k R / (R + h) - 1
unfoldable pub joint_formula : Given → Formula (List ℕ)
joint_formula given = do
  d ← # given.l -ᶠ # given.l0
  within ← within_domain d
  -- A = (λ - λ0) cos φ
  a ← # d *ᶠ # given.c
  z ← square (# a)
  p ← scale_ratio z given.a1 given.a2 given.a3
  k ← # given.k0 *ᶠ # p
  distortion ← # k *ᶠ # given.factor -ᶠ whole 1
  answer (distortion ∷ [])

-- the steps at a cell, from its latitude, longitude and height number
abbrev pub cell_list : StepList
cell_list = list_of 3 (cell_formula 0 1 2)

-- the steps of a design; of its four inputs they take the longitude and the scale factor
abbrev pub design_list : StepList
design_list = list_of 4 (design_formula 0 1 2 3)

-- the results of the design list, then those of the cell list
abbrev pub given : Given
given = record { l0 = 0; k0 = 1; l = 2; c = 3; a1 = 4; a2 = 5; a3 = 6; factor = 7 }

-- the steps to the distortion, from the results of a design and those at a cell
abbrev pub joint_list : StepList
joint_list = list_of 8 (joint_formula given)

-- the lists of the transverse Mercator projection
abbrev pub transverse_mercator : Lists
transverse_mercator = record { cell = cell_list; design = design_list; joint = joint_list }
