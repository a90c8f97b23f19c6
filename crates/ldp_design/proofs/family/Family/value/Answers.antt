use Rattle.std.proofs.Common.{SFits}
use Rattle.std.specs.Int.{w128}
use Rattle.std.proofs.lemmas.Int.{to_z-of_z}
use Rattle.ldp_design.proofs.Valid.{value_on}
use Rattle.ldp_design.proofs.family.Family.value.Goals as goal

pub returns-clause-range : goal.returns-clause-range
returns-clause-range c =
    let fits : SFits w128 c.value_at.result = record { sfits = c.value_at.type_inv } in
    rw (to_z-of_z w128 c.value_at.result fits, c.value_at.ensures.value, c.axis.ensures)
    (value_on c.args.self.now c.args.name c.args.i c.requires.valid c.requires.index)
