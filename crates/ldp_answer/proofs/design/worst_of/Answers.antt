use Rattle.std.proofs.Common.{arith, sym, ◌∙◌}
use Rattle.std.proofs.lemmas.Int.{ints, to_z-of_z, fits_signed_from_abs}
use mir.Syntax.{w128}
use Rattle.ldp_answer.proofs.Found.{value_is, never_unusable}
use Rattle.ldp_answer.proofs.design.worst_of.Goals as goal

pub unreachable-requires : goal.unreachable-requires
unreachable-requires c =
    never_unusable _ c.args.found.now.design c.in-Unusable.cell c.requires.usable
    (sym c.in-Unusable.is ∙ c.cost.ensures.value)

pub returns-clause-same : goal.returns-clause-same
returns-clause-same c =
    to_z-of_z w128 c.in-Is.value
    (fits_signed_from_abs w128 c.in-Is.value (omega (arith, ints, c.in-Is.ensures.number)))
    ∙ value_is _ c.args.found.now.design c.in-Is.over c.in-Is.value c.in-Is.cell c.requires.usable
    (sym c.in-Is.is ∙ c.cost.ensures.value)
    ∙ sym c.requires.cost.worst
