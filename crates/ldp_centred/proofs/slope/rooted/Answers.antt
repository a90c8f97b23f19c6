use Rattle.ldp_centred.proofs.Centring.{sqrt-centred}
use Rattle.ldp_centred.proofs.slope.rooted.Goals as goal

pub invariant_of-result : goal.invariant_of-result
invariant_of-result c =
    rw c.one_square_root.ensures
    (sqrt-centred _ _ _ c.a.invariant (rw (← c.a.view_is) at c.requires))
