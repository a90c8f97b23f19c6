-- The point scale factor of the Lambert conformal conic projection with one standard parallel, by
-- Snyder, USGS PP 1395, chapter 15 (ellipsoid). The factor k0, the order of the steps and the
-- stated domain, (q1 - q)² ≤ 1/4, are this project's own.
use Rattle.std.specs.Prelude.{ℕ, List, [], ◌∷◌}
use Rattle.ldp_ellipsoid.specs.Ellipsoid.{geo, meridian, isometric, ground_factor}
use Rattle.ldp_series.specs.Draft.{Formula}
use Rattle.ldp_series.specs.Formula.{answer, #, whole, fraction, ◌-ᶠ◌, ◌*ᶠ◌, ◌/ᶠ◌, square}
use Rattle.ldp_series.specs.Formula.{at_least_zero, ◌>>=◌}
use Rattle.ldp_series.specs.Series.{exponential}
use Rattle.ldp_series.specs.StepList.{StepList, list_of}
use Rattle.ldp_series.specs.declared.list.Lists.{Lists}

-- what a cell gives, from its latitude φ, longitude λ and height number η: m, the radius of its
-- parallel over the semi-major axis; q, its isometric latitude; and its ground factor
unfoldable pub cell_formula : ℕ → ℕ → ℕ → Formula (List ℕ)
cell_formula latitude longitude eta = do
  place ← geo latitude
  m ← meridian place
  q ← isometric place.s
  factor ← ground_factor place.w eta
  answer (m ∷ q ∷ factor ∷ [])

-- what a design gives, from its standard parallel φ1: n = sin φ1, the constant of the cone; q1 and
-- m1, its isometric latitude and the radius of its parallel; and its scale factor k0
unfoldable pub design_formula : ℕ → ℕ → ℕ → ℕ → Formula (List ℕ)
design_formula latitude longitude azimuth scale = do
  parallel ← geo latitude
  m1 ← meridian parallel
  q1 ← isometric parallel.s
  answer (parallel.s ∷ q1 ∷ m1 ∷ scale ∷ [])

-- need (1/4 - d²): the stated domain
unfoldable pub within_domain : ℕ → Formula ℕ
within_domain d = at_least_zero (fraction 1 4 -ᶠ square (# d))

-- the places of what a design and a cell give: n, q1, m1 and k0; m, q and the ground factor
pub record Given : Type 0 where
  pub n : ℕ
  pub q1 : ℕ
  pub m1 : ℕ
  pub k0 : ℕ
  pub m : ℕ
  pub q : ℕ
  pub factor : ℕ

-- the linear distortion k R / (R + h) - 1
unfoldable pub joint_formula : Given → Formula (List ℕ)
joint_formula given = do
  -- ln (t / t1), since q = -ln t
  d ← # given.q1 -ᶠ # given.q
  within ← within_domain d
  -- (t / t1)^n
  x ← # given.n *ᶠ # d
  y ← exponential x
  -- k = k0 (m1 / m) (t / t1)^n
  k ← # given.k0 *ᶠ (# given.m1 /ᶠ # given.m) *ᶠ # y
  distortion ← # k *ᶠ # given.factor -ᶠ whole 1
  answer (distortion ∷ [])

-- the steps at a cell, from its latitude, longitude and height number
abbrev pub cell_list : StepList
cell_list = list_of 3 (cell_formula 0 1 2)

-- the steps of a design; of its four inputs they take the latitude and the scale factor
abbrev pub design_list : StepList
design_list = list_of 4 (design_formula 0 1 2 3)

-- the results of the design list, then those of the cell list
abbrev pub given : Given
given = record { n = 0; q1 = 1; m1 = 2; k0 = 3; m = 4; q = 5; factor = 6 }

-- the steps to the distortion, from the results of a design and those at a cell
abbrev pub joint_list : StepList
joint_list = list_of 7 (joint_formula given)

-- the lists of the Lambert projection with one standard parallel
abbrev pub lambert : Lists
lambert = record { cell = cell_list; design = design_list; joint = joint_list }
