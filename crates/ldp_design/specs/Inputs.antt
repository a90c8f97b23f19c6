-- The inputs of the design list: the four values of a design as numbers.
use Rattle.std.specs.Prelude.{pos, neg_ℤ, ℕ, ℤ, List, Option, option_map}
use Rattle.ldp_num.specs.Number.{limit}
use Rattle.ldp_num.specs.Units.{radians_of}
use Rattle.ldp_design.specs.declared.axis.Axis.{Axis}
use Rattle.ldp_design.specs.declared.family.Family.{Family}
use Rattle.ldp_design.specs.declared.design.Design.{Design}
use Rattle.ldp_design.specs.declared.design_box.DesignBox.{DesignBox}
use Rattle.ldp_design.specs.declared.inputs.Inputs4.{Inputs4}
use Rattle.ldp_design.specs.Families.{family_of, value_at, IsAxis}
use Rattle.ldp_quantity.specs.Quantity.{degrees}
use Rattle.ldp_design.specs.Boxes.{first_of, last_of}

-- an axis of angles, from -360 to 360 degrees
abbrev pub IsAngleAxis : Axis → Type 0
IsAngleAxis axis = IsAxis (neg_ℤ (degrees 360)) (degrees 360) axis

-- an axis of numbers
abbrev pub IsNumberAxis : Axis → Type 0
IsNumberAxis axis = IsAxis (neg_ℤ (pos limit)) (pos limit) axis

-- the angle with this index, in units of 10^-15 radians, rounded down
abbrev pub angle_at : Axis → ℕ → ℤ
angle_at axis i = radians_of (value_at axis i)

-- the values of a design of this family as numbers of unit 10^-15: the angles in radians, and the
-- scale factor
abbrev pub inputs_at : Family → Design → Inputs4
inputs_at f d = record {
  lat = angle_at f.lat d.lat;
  lon = angle_at f.lon d.lon;
  azimuth = angle_at f.azimuth d.azimuth;
  scale = value_at f.scale d.scale;
}

-- the inputs of a design
abbrev pub design_inputs : List Family → Design → Option Inputs4
design_inputs families d = option_map (λ f. inputs_at f d) (family_of families d.family)

-- the inputs of a box: those at its low indices and those at its high indices
abbrev pub box_inputs : List Family → DesignBox → Option (Inputs4 × Inputs4)
box_inputs families b =
    option_map (λ f. (inputs_at f (first_of b), inputs_at f (last_of b)))
    (family_of families b.family)
