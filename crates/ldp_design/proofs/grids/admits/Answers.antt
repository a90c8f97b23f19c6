use Rattle.std.proofs.Common.{arith, ap, sym, ◌∙◌}
use Rattle.ldp_design.specs.Designs.{is_design_of}
use Rattle.ldp_design.proofs.Wholes.{not_admitted, admitted_by, no_family}
use Rattle.ldp_design.proofs.grids.admits.Goals as goal

pub returns-clause-value : goal.returns-clause-value
returns-clause-value c =
    c.family_admits.ensures.value
    ∙ sym (ap (λ f. is_design_of f c.args.d.now) c.family.ensures.value)

pub returns-clause-admitted : goal.returns-clause-admitted
returns-clause-admitted c =
    admitted_by c.args.grids.now.families c.args.d.now c.family.result.now c.family_admits.result
    c.family.ensures.value c.family_admits.ensures.design

pub returns-then-d-families-clause-value : goal.returns-then-d-families-clause-value
returns-then-d-families-clause-value c =
    no_family c.args.grids.now.families c.args.d.now
    (λ low high. absurd (omega (arith, c.families.ensures.value)))

pub returns-then-d-families-clause-admitted : goal.returns-then-d-families-clause-admitted
returns-then-d-families-clause-admitted c =
    not_admitted c.args.grids.now.families c.args.d.now
    (λ low high. absurd (omega (arith, c.families.ensures.value)))

pub returns-then-d-eq0-clause-value : goal.returns-then-d-eq0-clause-value
returns-then-d-eq0-clause-value c =
    no_family c.args.grids.now.families c.args.d.now (λ low high. absurd (omega arith))

pub returns-then-d-eq0-clause-admitted : goal.returns-then-d-eq0-clause-admitted
returns-then-d-eq0-clause-admitted c =
    not_admitted c.args.grids.now.families c.args.d.now (λ low high. absurd (omega arith))
