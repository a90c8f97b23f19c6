use Rattle.ldp_num.specs.Steps.{most_inputs}
use Rattle.std.proofs.Common.{◌≤◌, sym, subst}
use Rattle.ldp_num.specs.Steps.{most_steps}
use Rattle.ldp_distortion.specs.Prepared.{PreparedCells, HasRoom}
use Rattle.ldp_bound.specs.Kinds.{is_south}
use Rattle.ldp_bound.proofs.kept.Kept.set.Goals as goal

pub returns-clause-ready : goal.returns-clause-ready
returns-clause-ready c = record {
  full =
      c.args.self.now.full.full c.family.result.now.kind
      (is_south c.family.result.now) c.in_ok-cells.cells.now
      (sym c.in_ok-cells.ensures);
  room = subst (λ (p : PreparedCells). HasRoom p.lists most_steps) c.prepared.ensures
      c.lists.ensures.room;
  inputs = subst (λ (p : PreparedCells). p.lists.joint.inputs ≤ most_inputs) c.prepared.ensures
      (subst (λ (lists : _). lists.joint.inputs ≤ most_inputs) c.lists.ensures.lists
      c.inputs-inputs.ensures.few);
}
