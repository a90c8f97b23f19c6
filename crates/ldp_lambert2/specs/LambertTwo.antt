-- The point scale factor of the Lambert conformal conic projection with two standard parallels, by
-- Snyder, USGS PP 1395, chapter 15 (ellipsoid). The order of the steps and the stated domain of a
-- design, q2 - q1 ≥ 1/128, are this project's own.
use Rattle.std.specs.Prelude.{ℕ, List, [], ◌∷◌}
use Rattle.ldp_ellipsoid.specs.Ellipsoid.{geo, meridian, isometric}
use Rattle.ldp_lambert.specs.Lambert.{cell_list, joint_list}
use Rattle.ldp_series.specs.Draft.{Formula}
use Rattle.ldp_series.specs.Formula.{answer, #, fraction, ◌-ᶠ◌, ◌/ᶠ◌, at_least_zero, ◌>>=◌}
use Rattle.ldp_series.specs.Series.{logarithm}
use Rattle.ldp_series.specs.StepList.{StepList, list_of}
use Rattle.ldp_series.specs.declared.list.Lists.{Lists}

-- need (d - 1/128): the stated domain
unfoldable pub within_domain : ℕ → Formula ℕ
within_domain d = at_least_zero (# d -ᶠ fraction 1 128)

-- n = (ln m1 - ln m2) / (ln t1 - ln t2), the constant of the cone: ln (m1 / m2) / (q2 - q1), since
-- q = -ln t
unfoldable pub cone_constant : ℕ → ℕ → ℕ → ℕ → Formula ℕ
cone_constant m1 q1 m2 q2 = do
  d ← # q2 -ᶠ # q1
  within ← within_domain d
  ratio ← # m1 /ᶠ # m2
  logarithm ratio /ᶠ # d

-- what a design gives, from its standard parallels φ1 and φ2: n; q1 and m1, the isometric latitude
-- of the first and the radius of its parallel; and its scale factor k0. The second parallel stands
-- in the place of the azimuth.
unfoldable pub design_formula : ℕ → ℕ → ℕ → ℕ → Formula (List ℕ)
design_formula latitude longitude azimuth scale = do
  first ← geo latitude
  m1 ← meridian first
  q1 ← isometric first.s
  second ← geo azimuth
  m2 ← meridian second
  q2 ← isometric second.s
  n ← cone_constant m1 q1 m2 q2
  answer (n ∷ q1 ∷ m1 ∷ scale ∷ [])

-- the steps of a design; of its four inputs they take all but the longitude, and the third is the
-- second parallel
abbrev pub design_list : StepList
design_list = list_of 4 (design_formula 0 1 2 3)

-- the cell list and the joint list are those of the projection with one parallel
abbrev pub lambert_two : Lists
lambert_two = record { cell = cell_list; design = design_list; joint = joint_list }
