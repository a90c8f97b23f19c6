use Rattle.ldp_alignment.proofs.share.pair.Goals as goal

pub returns-clause-bounded : goal.returns-clause-bounded
returns-clause-bounded c =
    c.sum.ensures.bounded 1 c.share-first.ensures.bounded c.share-second.ensures.bounded
