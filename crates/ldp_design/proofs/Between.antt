-- The inputs of a design lie between those of its box.
use Rattle.std.proofs.Common.{◌≡◌, ℕ, ◌<◌, List, Some, sym, ◌∙◌, ap, subst, arith}
use Rattle.std.specs.Prelude.{option_map, IsSomeAnd}
use Rattle.std.proofs.lemmas.Int.{ints}
use Rattle.ldp_num.specs.Number.{IsNumber}
use Rattle.ldp_design.specs.declared.axis.Axis.{Axis}
use Rattle.ldp_design.specs.declared.axis.AxisName.TheVariants.{Lat, Lon, Azimuth, Scale}
use Rattle.ldp_design.specs.declared.family.Family.{Family}
use Rattle.ldp_design.specs.declared.design.Design.{Design}
use Rattle.ldp_design.specs.declared.design_box.DesignBox.{DesignBox}
use Rattle.ldp_design.specs.declared.inputs.Inputs4.{Inputs4}
use Rattle.ldp_design.specs.Families.{IsValid, AreGrids, family_of, value_at}
use Rattle.ldp_design.specs.Designs.{IsDesignOf}
use Rattle.ldp_design.specs.Boxes.{LiesIn, IsBoxOf, IsIn, first_of, last_of}
use Rattle.ldp_design.specs.Inputs.{IsAngleAxis, IsNumberAxis, angle_at, inputs_at, design_inputs}
use Rattle.ldp_design.specs.Inputs.{box_inputs}
use Rattle.ldp_design.specs.Laws.{AreNumbers, AreOrdered, LieBetween, HaveBetween}
use Rattle.ldp_design.proofs.Axes.{value-le, value-within, angle-le, radians-le}
use Rattle.ldp_design.proofs.Valid.{HasAxes, has_axes, scale_number}
use Rattle.ldp_design.proofs.Wholes.{valid_family, first_within, last_within}

-- the radians of a full turn are a number
angle_is_number : (axis : Axis) (i : ℕ) → IsAngleAxis axis → i < axis.count
    → IsNumber (angle_at axis i)
angle_is_number axis i h k =
    let within = value-within _ _ axis i h k in
    record {
      low = omega (arith, ints, radians-le _ _ within.above);
      high = omega (arith, ints, radians-le _ _ within.below);
    }

pub value_is_number : (axis : Axis) (i : ℕ) → IsNumberAxis axis → i < axis.count
    → IsNumber (value_at axis i)
value_is_number axis i h k =
    let within = value-within _ _ axis i h k in
    record { low = within.above; high = within.below }

pub are_numbers : (f : Family) (d : Design) → HasAxes f → IsDesignOf f d
    → AreNumbers (inputs_at f d)
are_numbers f d h k = record {
  lat = angle_is_number f.lat d.lat h.lat k.lat;
  lon = angle_is_number f.lon d.lon h.lon k.lon;
  azimuth = angle_is_number f.azimuth d.azimuth h.azimuth k.azimuth;
  scale = value_is_number f.scale d.scale (scale_number f.scale h.scale) k.scale;
}

ends_ordered : (f : Family) (b : DesignBox) → HasAxes f → IsBoxOf f b
    → AreOrdered (inputs_at f (first_of b)) (inputs_at f (last_of b))
ends_ordered f b h box = record {
  lat = angle-le f.lat b.lat.lo b.lat.hi h.lat.forward (box.some Lat);
  lon = angle-le f.lon b.lon.lo b.lon.hi h.lon.forward (box.some Lon);
  azimuth = angle-le f.azimuth b.azimuth.lo b.azimuth.hi h.azimuth.forward (box.some Azimuth);
  scale = value-le f.scale b.scale.lo b.scale.hi h.scale.forward (box.some Scale);
}

pub inputs_between : (f : Family) (b : DesignBox) (d : Design) → HasAxes f → IsIn d b
    → LieBetween (inputs_at f (first_of b)) (inputs_at f (last_of b)) (inputs_at f d)
inputs_between f b d h i = record {
  lat = (
    angle-le f.lat b.lat.lo d.lat h.lat.forward (i.low Lat),
    angle-le f.lat d.lat b.lat.hi h.lat.forward (i.high Lat),
  );
  lon = (
    angle-le f.lon b.lon.lo d.lon h.lon.forward (i.low Lon),
    angle-le f.lon d.lon b.lon.hi h.lon.forward (i.high Lon),
  );
  azimuth = (
    angle-le f.azimuth b.azimuth.lo d.azimuth h.azimuth.forward (i.low Azimuth),
    angle-le f.azimuth d.azimuth b.azimuth.hi h.azimuth.forward (i.high Azimuth),
  );
  scale = (
    value-le f.scale b.scale.lo d.scale h.scale.forward (i.low Scale),
    value-le f.scale d.scale b.scale.hi h.scale.forward (i.high Scale),
  );
}

-- a design of a box has inputs, between those of the box
pub design_between : (families : List Family) (b : DesignBox) (f : Family) (d : Design) → HasAxes f
    → family_of families b.family ≡ Some f → IsIn d b
    → IsSomeAnd (design_inputs families d)
    (LieBetween (inputs_at f (first_of b)) (inputs_at f (last_of b)))
design_between families b f d h e i =
    let found : design_inputs families d ≡ Some (inputs_at f d) =
    ap (option_map (λ g. inputs_at g d)) (ap (family_of families) i.family ∙ e) in
    subst (λ o. IsSomeAnd o (LieBetween (inputs_at f (first_of b)) (inputs_at f (last_of b))))
    (sym found) (inputs_between f b d h i)

pub box_between : (families : List Family) (b : DesignBox) (f : Family) → IsValid f → IsBoxOf f b
    → family_of families b.family ≡ Some f
    → HaveBetween families b (inputs_at f (first_of b)) (inputs_at f (last_of b))
box_between families b f v h e =
    let axes : HasAxes f = has_axes f v in
    record {
      low_numbers = are_numbers f (first_of b) axes (first_within f b h);
      high_numbers = are_numbers f (last_of b) axes (last_within f b h);
      ordered = ends_ordered f b axes h;
      designs = λ d i. design_between families b f d axes e i;
    }

abbrev box_ends : Family → DesignBox → Inputs4 × Inputs4
box_ends f b = (inputs_at f (first_of b), inputs_at f (last_of b))

pub inputs_lie_between : (families : List Family) (b : DesignBox) (low high : Inputs4)
    → AreGrids families → LiesIn families b → box_inputs families b ≡ Some (low, high)
    → HaveBetween families b low high
inputs_lie_between families b low high g h e =
    let found : box_inputs families b ≡ Some (box_ends h.family b) =
    ap (option_map (λ f. (inputs_at f (first_of b), inputs_at f (last_of b)))) h.found in
    let same : box_ends h.family b ≡ (low, high) = cc in
    subst (λ (p : Inputs4 × Inputs4). HaveBetween families b p.0 p.1) same
    (box_between families b h.family
    (valid_family families b.family h.family g h.found) h.within h.found)
