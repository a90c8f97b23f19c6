use Rattle.std.proofs.lemmas.Cmp.{then_total, on_total, nat_cmp_total}
use Rattle.ldp_design.specs.declared.design.Design.{Design}
use Rattle.ldp_design.proofs.design.order.Goals as goal

pub returns-clause-total : goal.returns-clause-total
returns-clause-total c =
    then_total (on_total (λ (d : Design). d.family) nat_cmp_total)
    (then_total (on_total (λ (d : Design). d.lat) nat_cmp_total)
    (then_total (on_total (λ (d : Design). d.lon) nat_cmp_total)
    (then_total (on_total (λ (d : Design). d.azimuth) nat_cmp_total)
    (on_total (λ (d : Design). d.scale) nat_cmp_total))))
