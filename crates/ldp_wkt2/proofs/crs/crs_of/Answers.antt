use Rattle.std.proofs.Common.{◌≡◌, sym, subst}
use Rattle.ldp_design.specs.declared.family.Family.{Family}
use Rattle.ldp_design.specs.Designs.{IsDesignOf}
use Rattle.ldp_wkt2.specs.declared.crs.Crs.{Crs}
use Rattle.ldp_wkt2.specs.Values.{IsCrs}
use Rattle.ldp_wkt2.proofs.Designs.{crs_is}
use Rattle.ldp_wkt2.proofs.crs.crs_of.Goals as goal

pub returns-clause-range : goal.returns-clause-range
returns-clause-range c =
    let same : c.requires.family ≡ c.family.result.now =
    cc (c.requires.found, c.family.ensures.value) in
    let within : IsDesignOf c.family.result.now c.args.d.now =
    subst (λ (f : Family). IsDesignOf f c.args.d.now) same c.requires.within in
    subst (λ (x : Crs). IsCrs x) (sym c.family_crs.ensures)
    (crs_is c.family.result.now c.args.d.now c.family.ensures.valid within)
