use Rattle.ldp_centred.proofs.Casts.{number-passed}
use Rattle.ldp_centred.proofs.product.slopes_of_product.Goals as goal

pub returns : goal.returns
returns c =
    let p = number-passed c.args.centre c.requires in
    rw (c.slopes_by.ensures, c.sharp.ensures) (simp p)
