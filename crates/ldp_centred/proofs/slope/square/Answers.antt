use Rattle.std.proofs.Common.{sym, ◌∙◌}
use Rattle.ldp_centred.proofs.Centring.{sq-centred}
use Rattle.ldp_centred.proofs.slope.square.Goals as goal

pub described-requires : goal.described-requires
described-requires c = λ r e.
    rw c.one_square.ensures (sq-centred _ r _ c.a.invariant (sym c.squared.ensures ∙ e))

pub returns : goal.returns
returns c = rw (← c.a.view_is, c.described.ensures, c.one_square.ensures, c.squared.ensures)
