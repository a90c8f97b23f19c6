-- The transverse Mercator design that two words name. (Snyder PP 1395, chapter 8.)
use Rattle.std.specs.Prelude.{ℕ, ℤ, pos, List, Result, Ok}
use Rattle.ldp_num.specs.Units.{radians_of}
use Rattle.ldp_quantity.specs.Results.{◌>>=◌}
use Rattle.ldp_quantity.specs.Quantity.{longitude_of, scale_of}
use Rattle.ldp_quantity.specs.declared.unfit.Unfit.{Unfit}
use Rattle.ldp_distortion.specs.declared.inputs.Inputs.{Inputs}

-- the central meridian in 10^-12 degrees, and the scale factor on it in 10^-15
pub record CentralDesign : Type 0 where
  pub longitude : ℤ
  pub scale : ℤ

-- the design of two words, or why the first that gives no number gives none
abbrev pub central_of : List ℕ → List ℕ → Result CentralDesign Unfit
central_of longitude scale = do
  meridian ← longitude_of longitude
  factor ← scale_of scale
  Ok record { longitude = meridian; scale = factor }

-- the inputs of the design list; nothing in the lists of the projection depends on the latitude and
-- the azimuth of a design
abbrev pub central_inputs : CentralDesign → Inputs
central_inputs design =
    record { lat = pos 0; lon = radians_of design.longitude; azimuth = pos 0; scale = design.scale }
