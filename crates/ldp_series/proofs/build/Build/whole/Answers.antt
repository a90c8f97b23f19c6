use Rattle.std.proofs.Common.{rules}
use Rattle.ldp_series.proofs.Rounds.{whole_units}
use Rattle.ldp_series.proofs.build.Build.whole.Goals as goal

pub returns-clause-ok : goal.returns-clause-ok
returns-clause-ok c =
    let made = rw (whole_units c.args.v c.requires.number) at c.in_ok-place.ensures.ok.made in
    record { made = made; added = search rules }
