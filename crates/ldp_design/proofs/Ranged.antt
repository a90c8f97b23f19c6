-- The counts and the values of a family with a number.
use Rattle.std.proofs.Common.{◌≡◌, ℕ, zero, suc, ◌≤◌, List, length, arith}
use Rattle.std.proofs.lemmas.Option.{slice_get_within}
use Rattle.std.specs.Prelude.{Some}
use Rattle.ldp_design.specs.declared.axis.AxisName.{AxisName}
use Rattle.ldp_design.specs.declared.family.Family.{Family}
use Rattle.ldp_design.specs.Families.{IsValid, family_of}
use Rattle.ldp_design.specs.Designs.{axis_of}
use Rattle.ldp_design.specs.Laws.{FamiliesAreInRange}
use Rattle.ldp_design.proofs.Valid.{has_axes, number_axis, value_on}
use Rattle.ldp_design.proofs.Wholes.{valid_family}

numbered : (families : List Family) (number : ℕ) (f : Family) → family_of families number ≡ Some f
    → (1 ≤ number) × (number ≤ length families)
numbered families zero f e = absurd cc
numbered families (suc k) f e =
    let within = slice_get_within families k f e in
    (omega arith, omega (arith, within))

few_values : (f : Family) → IsValid f → (axis : AxisName) → (axis_of axis f).count ≤ 100_000
few_values f valid axis = (number_axis f axis (has_axes f valid)).few

pub families_in_range : FamiliesAreInRange
families_in_range families number f g e =
    let place = numbered families number f e in
    let valid : IsValid f = valid_family families number f g e in
    record {
      some = place.0;
      few = omega (arith, place.1, g.few);
      counts = few_values f valid;
      values = λ axis i h. value_on f axis i valid h;
    }
