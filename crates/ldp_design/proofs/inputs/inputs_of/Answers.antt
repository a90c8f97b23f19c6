use Rattle.ldp_design.proofs.Between.{box_between}
use Rattle.ldp_design.proofs.Wholes.{box_of, first_within, last_within}
use Rattle.ldp_design.proofs.inputs.inputs_of.Goals as goal

pub family_inputs-requires-clause-within : goal.family_inputs-requires-clause-within
family_inputs-requires-clause-within c =
    let box =
    box_of c.args.grids.now.families c.args.b.now c.family-family.result.now c.requires
    c.family-family.ensures.value in
    rw c.first.ensures.value (first_within c.family-family.result.now c.args.b.now box)

pub family_inputs-requires-2-clause-within : goal.family_inputs-requires-2-clause-within
family_inputs-requires-2-clause-within c =
    let box =
    box_of c.args.grids.now.families c.args.b.now c.family-family.result.now c.requires
    c.family-family.ensures.value in
    rw c.last.ensures (last_within c.family-family.result.now c.args.b.now box)

pub returns-clause-between : goal.returns-clause-between
returns-clause-between c =
    let box =
    box_of c.args.grids.now.families c.args.b.now c.family-family.result.now c.requires
    c.family-family.ensures.value in
    rw (
      c.family_inputs.ensures.value,
      c.first.ensures.value,
      c.family_inputs-2.ensures.value,
      c.last.ensures,
    )
    (box_between c.args.grids.now.families c.args.b.now c.family-family.result.now
    c.family-family.ensures.valid box
    c.family-family.ensures.value)
