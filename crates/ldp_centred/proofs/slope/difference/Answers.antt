use Rattle.std.proofs.Common.{sym, ◌∙◌}
use Rattle.ldp_centred.proofs.Centring.{sub-centred}
use Rattle.ldp_centred.proofs.slope.difference.Goals as goal

pub described-requires : goal.described-requires
described-requires c = λ r e.
    rw c.both_difference.ensures
    (sub-centred _ _ r _ _ c.a.invariant c.b.invariant (sym c.difference.ensures ∙ e))
