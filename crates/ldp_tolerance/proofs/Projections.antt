-- Along the lists of each kind of projection the height moves once: both lists are run over marks.
use Rattle.std.proofs.Common.{Bool, refl}
use Rattle.ldp_ellipsoid.specs.Ellipsoid.{second_eccentricity_squared, axis_ratio, geo, meridian}
use Rattle.ldp_ellipsoid.specs.Ellipsoid.{hyperbolic_arctangent, isometric, ground_factor}
use Rattle.ldp_series.specs.Formula.{◌>>=◌}
use Rattle.ldp_series.specs.Series.{horner, polynomial, in_turn, round, growing_round, sine, cosine}
use Rattle.ldp_series.specs.Series.{repeated, odd_polynomial, half_angle, arctangent, logarithm}
use Rattle.ldp_series.specs.Series.{difference_over_sum, exponential}
use Rattle.ldp_tm.specs.TransverseMercator as tm
use Rattle.ldp_lambert.specs.Lambert as lambert
use Rattle.ldp_lambert2.specs.LambertTwo as lambert_two
use Rattle.ldp_hotine.specs.Hotine as hotine
use Rattle.ldp_tolerance.specs.Heights.{MoveOnce}

pub tm-moves : MoveOnce tm.transverse_mercator
unfolding MoveOnce tm.cell_formula tm.joint_formula tm.within_domain tm.tangent_squared
    tm.second_power tm.fourth_power tm.sixth_power tm.scale_ratio second_eccentricity_squared geo
    axis_ratio ground_factor horner polynomial in_turn round growing_round sine cosine repeated ◌>>=◌
tm-moves = refl

pub lambert-moves : MoveOnce lambert.lambert
unfolding MoveOnce lambert.cell_formula lambert.design_formula lambert.joint_formula
    lambert.within_domain geo meridian hyperbolic_arctangent isometric axis_ratio ground_factor
    horner polynomial in_turn round growing_round sine cosine repeated odd_polynomial logarithm
    difference_over_sum exponential ◌>>=◌
lambert-moves = refl

pub lambert_two-moves : MoveOnce lambert_two.lambert_two
unfolding MoveOnce lambert.cell_formula lambert.joint_formula lambert.within_domain
    lambert_two.design_formula lambert_two.within_domain lambert_two.cone_constant geo meridian
    hyperbolic_arctangent isometric axis_ratio ground_factor horner polynomial in_turn round
    growing_round sine cosine repeated odd_polynomial logarithm difference_over_sum exponential ◌>>=◌
lambert_two-moves = refl

pub hotine-moves : (south : Bool) → MoveOnce (hotine.hotine south)
unfolding MoveOnce hotine.cell_formula hotine.design_formula hotine.joint_formula
    hotine.constant_b hotine.relative_a hotine.constant_d hotine.by_hemisphere hotine.constant_f
    hotine.half_difference hotine.cosine_of_sine hotine.natural_origin hotine.near_centre
    hotine.near_origin hotine.above_a_sixteenth hotine.constant_q hotine.constant_n
    hotine.scale_factor second_eccentricity_squared geo meridian hyperbolic_arctangent isometric
    axis_ratio ground_factor horner polynomial in_turn round growing_round sine cosine repeated
    odd_polynomial half_angle arctangent logarithm difference_over_sum exponential ◌>>=◌
hotine-moves south = refl
