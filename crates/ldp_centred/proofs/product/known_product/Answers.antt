use Rattle.std.proofs.Common.{◌≡◌, to_z, of_z, ◌∙◌}
use Rattle.std.specs.Int.{w128}
use Rattle.ldp_num.specs.Plain.{plain_mul}
use Rattle.ldp_num.specs.Slopes.{of_places, slope_mul, error_mul, known_mul}
use Rattle.ldp_centred.proofs.Casts.{number-passed}
use Rattle.ldp_centred.proofs.Parts.{made-same, viewed}
use Rattle.ldp_centred.proofs.product.known_product.Goals as goal

pub returns : goal.returns
returns c =
    let p = number-passed c.k.inside.centre c.k.invariant.centre_number in
    let q = number-passed c.l.inside.centre c.l.invariant.centre_number in
    let r = number-passed c.k.inside.error c.k.invariant.error_natural.number in
    let s = number-passed c.l.inside.error c.l.invariant.error_natural.number in
    let product : c.mul.result ≡ plain_mul (to_z w128 (of_z w128 c.k.inside.centre))
    (to_z w128 (of_z w128 c.l.inside.centre)) =
    c.mul.ensures.value in
    let error : c.error_of_product.result ≡ error_mul c.args.range
    (to_z w128 (of_z w128 c.l.inside.centre)) (to_z w128 (of_z w128 c.k.inside.error))
    (to_z w128 (of_z w128 c.l.inside.error)) =
    c.error_of_product.ensures.value in
    let slopes : c.slopes_of_product.result ≡ of_places
    (slope_mul c.args.range (to_z w128 (of_z w128 c.l.inside.centre))) c.k.inside.slopes
    c.l.inside.slopes =
    c.slopes_of_product.ensures in
    viewed c.joined.result (known_mul c.args.range) _ _ c.args.k c.args.l c.k.view_is c.l.view_is
    (c.joined.ensures ∙ made-same c.mul.result _ c.error_of_product.result _
    c.slopes_of_product.result _ (rw (p, q) at product) (rw (q, r, s) at error) (rw q at slopes))
