-- The scale factor of the Hotine oblique Mercator projection with one centre point and an azimuth,
-- after Snyder, USGS PP 1395, chapter 9 (alternate B). The form of k is this project's own, and
-- nothing is claimed about how it stands to a printed formula. So are the order of the steps and
-- the stated domain: (q - qc)² ≤ 1, (B (λ - λ0))² ≤ 4 and cos (B (λ - λ0)) ≥ 1/16.
use Rattle.std.specs.Prelude.{ℕ, Bool, true, false, List, [], ◌∷◌}
use Rattle.ldp_ellipsoid.specs.Ellipsoid.{second_eccentricity_squared, axis_ratio, geo, meridian}
use Rattle.ldp_ellipsoid.specs.Ellipsoid.{isometric, ground_factor}
use Rattle.ldp_series.specs.Draft.{Formula}
use Rattle.ldp_series.specs.Formula.{answer, #, whole, fraction, ◌+ᶠ◌, ◌-ᶠ◌, ◌*ᶠ◌, ◌/ᶠ◌, square, √}
use Rattle.ldp_series.specs.Formula.{at_least_zero, ◌>>=◌}
use Rattle.ldp_series.specs.Series.{sine, cosine, arctangent, exponential}
use Rattle.ldp_series.specs.StepList.{StepList, list_of}
use Rattle.ldp_series.specs.declared.list.Lists.{Lists}

-- what a cell gives, from its latitude φ, longitude λ and height number η: λ; q, its isometric
-- latitude; m, the radius of its parallel over the semi-major axis; and its ground factor
unfoldable pub cell_formula : ℕ → ℕ → ℕ → Formula (List ℕ)
cell_formula latitude longitude eta = do
  place ← geo latitude
  m ← meridian place
  q ← isometric place.s
  factor ← ground_factor place.w eta
  answer (longitude ∷ q ∷ m ∷ factor ∷ [])

-- B = √(1 + e'² cos⁴φc), from cos φc
unfoldable pub constant_b : ℕ → Formula ℕ
constant_b c = √ (whole 1 +ᶠ second_eccentricity_squared *ᶠ square (square (# c)))

-- A over the semi-major axis: B k0 √(1 - e²) / (1 - e² sin²φc)
unfoldable pub relative_a : ℕ → ℕ → ℕ → ℕ → Formula ℕ
relative_a b scale ratio w = # b *ᶠ # scale *ᶠ # ratio /ᶠ # w

-- D = B √(1 - e²) / (cos φc √(1 - e² sin²φc))
unfoldable pub constant_d : ℕ → ℕ → ℕ → ℕ → Formula ℕ
constant_d b ratio c w = # b *ᶠ # ratio /ᶠ (# c *ᶠ √ (# w))

-- D + r for a centre north of the equator, D - r for one south of it
unfoldable pub by_hemisphere : Bool → ℕ → ℕ → Formula ℕ
by_hemisphere false d r = # d +ᶠ # r
by_hemisphere true d r = # d -ᶠ # r

-- F = D ± √(D² - 1), with the sign of φc
unfoldable pub constant_f : Bool → ℕ → Formula ℕ
constant_f south d = do
  r ← √ (square (# d) -ᶠ whole 1)
  by_hemisphere south d r

-- (F - 1/F) / 2: G of F, and S of Q
unfoldable pub half_difference : ℕ → Formula ℕ
half_difference f = (# f -ᶠ whole 1 /ᶠ # f) /ᶠ whole 2

-- √(1 - s²), the cosine of the angle between -π/2 and π/2 that has the sine s
unfoldable pub cosine_of_sine : ℕ → Formula ℕ
cosine_of_sine s = √ (whole 1 -ᶠ square (# s))

-- λ0 = λc - arcsin (G tan γ0) / B, with arcsin x = atan (x / √(1 - x²))
unfoldable pub natural_origin : ℕ → ℕ → ℕ → ℕ → ℕ → Formula ℕ
natural_origin longitude b g sg cg = do
  x ← # g *ᶠ (# sg /ᶠ # cg)
  y ← # x /ᶠ cosine_of_sine x
  # longitude -ᶠ arctangent y /ᶠ # b

-- what a design gives, from its centre φc, λc, the azimuth α of its central line there, and its
-- scale factor k0: B; λ0, the longitude of the natural origin; F; qc, the isometric latitude of the
-- centre; sine and cosine of γ0; and A over the semi-major axis
unfoldable pub design_formula : Bool → ℕ → ℕ → ℕ → ℕ → Formula (List ℕ)
design_formula south latitude longitude azimuth scale = do
  centre ← geo latitude
  qc ← isometric centre.s
  b ← constant_b centre.c
  ratio ← axis_ratio
  a ← relative_a b scale ratio centre.w
  d ← constant_d b ratio centre.c centre.w
  f ← constant_f south d
  g ← half_difference f
  -- sin γ0 = sin α / D
  v ← sine azimuth
  sg ← # v /ᶠ # d
  cg ← cosine_of_sine sg
  l0 ← natural_origin longitude b g sg cg
  answer (b ∷ l0 ∷ f ∷ qc ∷ sg ∷ cg ∷ a ∷ [])

-- need (1 - d²): near the centre
unfoldable pub near_centre : ℕ → Formula ℕ
near_centre d = at_least_zero (whole 1 -ᶠ square (# d))

-- need (4 - θ²): near the natural origin
unfoldable pub near_origin : ℕ → Formula ℕ
near_origin angle = at_least_zero (whole 4 -ᶠ square (# angle))

-- need (C - 1/16)
unfoldable pub above_a_sixteenth : ℕ → Formula ℕ
above_a_sixteenth c = at_least_zero (# c -ᶠ fraction 1 16)

-- Q = E / t^B, which is F exp (B d), with d = q - qc and E = F tc^B
unfoldable pub constant_q : ℕ → ℕ → ℕ → Formula ℕ
constant_q f b d = do
  x ← # b *ᶠ # d
  y ← exponential x
  # f *ᶠ # y

-- N = S cos γ0 + V sin γ0, with S = (Q - 1/Q) / 2
unfoldable pub constant_n : ℕ → ℕ → ℕ → ℕ → Formula ℕ
constant_n q v sg cg = half_difference q *ᶠ # cg +ᶠ # v *ᶠ # sg

-- k = (A / a) / (m √(N² + C²)). (Own choice of this project.)
unfoldable pub scale_factor : ℕ → ℕ → ℕ → ℕ → Formula ℕ
scale_factor a m n c = # a /ᶠ (# m *ᶠ √ (square (# n) +ᶠ square (# c)))

-- the places of what a design and a cell give: B, λ0, F, qc, sin γ0, cos γ0 and A over the
-- semi-major axis; λ, q, m and the ground factor
pub record Given : Type 0 where
  pub b : ℕ
  pub l0 : ℕ
  pub f : ℕ
  pub qc : ℕ
  pub sg : ℕ
  pub cg : ℕ
  pub a : ℕ
  pub l : ℕ
  pub q : ℕ
  pub m : ℕ
  pub factor : ℕ

-- the linear distortion k R / (R + h) - 1
unfoldable pub joint_formula : Given → Formula (List ℕ)
joint_formula given = do
  d ← # given.q -ᶠ # given.qc
  near ← near_centre d
  -- θ = B (λ - λ0)
  angle ← # given.b *ᶠ (# given.l -ᶠ # given.l0)
  within ← near_origin angle
  v ← sine angle
  c ← cosine angle
  ahead ← above_a_sixteenth c
  snyder_q ← constant_q given.f given.b d
  n ← constant_n snyder_q v given.sg given.cg
  k ← scale_factor given.a given.m n c
  distortion ← # k *ᶠ # given.factor -ᶠ whole 1
  answer (distortion ∷ [])

-- the steps at a cell, from its latitude, longitude and height number
abbrev pub cell_list : StepList
cell_list = list_of 3 (cell_formula 0 1 2)

-- the steps of a design, from its centre, azimuth and scale factor; true is for centres south of
-- the equator
abbrev pub design_list : Bool → StepList
design_list south = list_of 4 (design_formula south 0 1 2 3)

-- the results of the design list, then those of the cell list
abbrev pub given : Given
given = record {
  b = 0;
  l0 = 1;
  f = 2;
  qc = 3;
  sg = 4;
  cg = 5;
  a = 6;
  l = 7;
  q = 8;
  m = 9;
  factor = 10;
}

-- the steps to the distortion, from the results of a design and those at a cell
abbrev pub joint_list : StepList
joint_list = list_of 11 (joint_formula given)

-- for centres south of the equator, or for those north of it
abbrev pub hotine : Bool → Lists
hotine south = record { cell = cell_list; design = design_list south; joint = joint_list }
