-- Lists of a projection of which the joint list takes the results of the design list and then those
-- of the cell list.
use Rattle.std.specs.Prelude.{◌≡◌, ◌≤◌, ◌+◌, length}
use Rattle.ldp_series.specs.declared.list.Lists.{Lists}

-- the lists have these numbers of inputs, and the joint list has a result
pub record Fitting (lists : Lists) : Type 0 where
  pub cell : lists.cell.inputs ≡ 3
  pub design : lists.design.inputs ≡ 4
  pub joint : lists.joint.inputs ≡ length lists.design.outs + length lists.cell.outs
  pub result : 1 ≤ length lists.joint.outs
