use Rattle.std.proofs.Common.{◌≡◌, Ok, IfSome, subst, sym, ap, ◌∙◌, option_map}
use Rattle.std.specs.Prelude.{unsigned_abs}
use Rattle.ldp_answer.specs.Design.{design_over}
use Rattle.ldp_cli.specs.Design.{IsCertified}
use Rattle.ldp_cli.proofs.Designed.{told_found}
use Rattle.ldp_cli.proofs.design.design.Goals as goal

pub returns-clause-found : goal.returns-clause-found
returns-clause-found g c = λ done.
    subst (λ words. IfSome (g.H.Shelf.files c.args.shelf.now) (λ files. IsCertified words files))
    c.words.view_is
    (told_found _ _ c.in_ok-problem.problem c.in_ok-cells.cells c.in_ok-design_over.field-0
    c.in_ok-problem.ensures.told c.in_ok-cells.ensures.cells
    (subst (λ limits. design_over c.in_ok-cells.cells c.in_ok-problem.problem.grids.families
    c.in_ok-problem.problem.names limits.budget (option_map unsigned_abs limits.tolerance)
    ≡ Ok c.in_ok-design_over.field-0)
    (c.limits-limits.ensures.value ∙ ap (λ words. words.limits) (sym c.words.view_is))
    c.in_ok-design_over.ensures.answer)
    c.in_ok-design_over.ensures.accepted done)
