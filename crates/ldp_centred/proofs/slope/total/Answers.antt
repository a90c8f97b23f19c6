use Rattle.std.proofs.Common.{sym, ◌∙◌}
use Rattle.ldp_centred.proofs.Centring.{add-centred}
use Rattle.ldp_centred.proofs.slope.total.Goals as goal

pub described-requires : goal.described-requires
described-requires c = λ r e.
    rw c.both_sum.ensures
    (add-centred _ _ r _ _ c.a.invariant c.b.invariant (sym c.sum.ensures ∙ e))
