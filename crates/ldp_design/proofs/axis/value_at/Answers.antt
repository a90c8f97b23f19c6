use Rattle.std.proofs.Common.{◌≡◌, ℤ, subst, sym, arith}
use Rattle.std.proofs.lemmas.Grind.{common_steps}
use Rattle.ldp_num.specs.Number.{IsNumber}
use Rattle.ldp_design.specs.Families.{value_at}
use Rattle.ldp_design.proofs.Between.{value_is_number}
use Rattle.ldp_design.proofs.axis.value_at.Goals as goal

number_is : (r v : ℤ) → r ≡ v → IsNumber v → IsNumber r
number_is r v e n = subst IsNumber (sym e) n

pub returns-clause-number : goal.returns-clause-number
returns-clause-number c =
    number_is _ (value_at c.args.axis.now c.args.i) (grind (arith, common_steps))
    (value_is_number c.args.axis.now c.args.i c.requires.axis c.requires.index)
