use Rattle.std.proofs.Common.{sym, ◌∙◌}
use Rattle.ldp_centred.proofs.Centring.{mul-centred}
use Rattle.ldp_centred.proofs.slope.product.Goals as goal

pub described-requires : goal.described-requires
described-requires c = λ r e.
    rw c.both_product.ensures
    (mul-centred _ _ r _ _ c.a.invariant c.b.invariant (sym c.times.ensures ∙ e))

pub returns : goal.returns
returns c =
    rw (← c.a.view_is, ← c.b.view_is, c.described.ensures, c.both_product.ensures, c.times.ensures)
