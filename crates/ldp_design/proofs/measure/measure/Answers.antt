use Rattle.std.proofs.Common.{◌<◌, arith}
use Rattle.ldp_design.specs.declared.axis.AxisName.{AxisName}
use Rattle.ldp_design.specs.declared.axis.AxisName.TheVariants.{Lat, Lon, Azimuth, Scale}
use Rattle.ldp_design.specs.declared.family.Family.{Family}
use Rattle.ldp_design.specs.declared.design_box.DesignBox.{DesignBox}
use Rattle.ldp_design.specs.Boxes.{IsBoxOf, span_of}
use Rattle.ldp_design.specs.Designs.{axis_of}
use Rattle.ldp_design.proofs.Valid.{has_axes, scale_number}
use Rattle.ldp_design.proofs.measure.measure.Goals as goal

-- the low index of a span is one of the axis
low_within : (f : Family) (b : DesignBox) (a : AxisName) → IsBoxOf f b
    → (span_of a b).lo < (axis_of a f).count
low_within f b a h = omega (arith, h.some a, h.within a)

pub angle_width-requires-clause-axis : goal.angle_width-requires-clause-axis
angle_width-requires-clause-axis c = (has_axes c.args.family.now c.requires.valid).lat

pub angle_width-requires-clause-low : goal.angle_width-requires-clause-low
angle_width-requires-clause-low c = low_within c.args.family.now c.args.b.now Lat c.requires.within

pub angle_width-requires-clause-high : goal.angle_width-requires-clause-high
angle_width-requires-clause-high c = c.requires.within.within Lat

pub angle_width-requires-in-Lon-clause-axis : goal.angle_width-requires-in-Lon-clause-axis
angle_width-requires-in-Lon-clause-axis c = (has_axes c.args.family.now c.requires.valid).lon

pub angle_width-requires-in-Lon-clause-low : goal.angle_width-requires-in-Lon-clause-low
angle_width-requires-in-Lon-clause-low c =
    low_within c.args.family.now c.args.b.now Lon c.requires.within

pub angle_width-requires-in-Lon-clause-high : goal.angle_width-requires-in-Lon-clause-high
angle_width-requires-in-Lon-clause-high c = c.requires.within.within Lon

pub angle_width-requires-in-Azimuth-clause-axis : goal.angle_width-requires-in-Azimuth-clause-axis
angle_width-requires-in-Azimuth-clause-axis c =
    (has_axes c.args.family.now c.requires.valid).azimuth

pub angle_width-requires-in-Azimuth-clause-low : goal.angle_width-requires-in-Azimuth-clause-low
angle_width-requires-in-Azimuth-clause-low c =
    low_within c.args.family.now c.args.b.now Azimuth c.requires.within

pub angle_width-requires-in-Azimuth-clause-high : goal.angle_width-requires-in-Azimuth-clause-high
angle_width-requires-in-Azimuth-clause-high c = c.requires.within.within Azimuth

pub value_width-requires-clause-axis : goal.value_width-requires-clause-axis
value_width-requires-clause-axis c =
    scale_number c.args.family.now.scale (has_axes c.args.family.now c.requires.valid).scale

pub value_width-requires-clause-low : goal.value_width-requires-clause-low
value_width-requires-clause-low c =
    low_within c.args.family.now c.args.b.now Scale c.requires.within

pub value_width-requires-clause-high : goal.value_width-requires-clause-high
value_width-requires-clause-high c = c.requires.within.within Scale
