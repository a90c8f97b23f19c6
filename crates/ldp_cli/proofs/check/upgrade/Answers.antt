use Rattle.ldp_cli.proofs.Upgraded.{told_upgraded}
use Rattle.ldp_cli.proofs.check.upgrade.Goals as goal

pub returns-clause-upgraded : goal.returns-clause-upgraded
returns-clause-upgraded g c = λ done.
    told_upgraded _ _ c.in_ok-cells.field-0 c.in_ok-upgrade_over.field-0
    c.in_ok-cells.ensures.told c.in_ok-cells.ensures.names c.in_ok-cells.ensures.job
    c.in_ok-upgrade_over.ensures done
