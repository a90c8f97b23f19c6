use Rattle.std.proofs.Common.{arith}
use Rattle.std.proofs.lemmas.Int.{to_z-of_z}
use Rattle.ldp_num.proofs.Products.{fits-product}
use Rattle.ldp_num.proofs.exact.exact.Goals as goal

pub returns : goal.returns
returns c =
    let fits = fits-product c.args.a c.args.b c.requires.left c.requires.right in
    grind (arith, to_z-of_z)
