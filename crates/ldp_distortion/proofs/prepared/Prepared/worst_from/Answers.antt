use Rattle.std.proofs.Common.{◌≡◌, ◌<◌, ◌≤◌, ◌^◌, ap, arith, length, nat_abs, refl, rules, ◌∙◌}
use Rattle.std.proofs.Common.{List, ℤ}
use Rattle.std.proofs.lemmas.Int.{to_z-of_z, to_z_pos}
use Rattle.std.proofs.lemmas.Option.{slice_get_within}
use Rattle.std.specs.Prelude.{Some, None, Option, slice_get}
use mir.Val.{SFits, hbits}
use mir.Syntax.{w128}
use Rattle.ldp_distortion.specs.declared.worst.Worst.TheVariants.{Is}
use Rattle.ldp_distortion.specs.Prepared.{PreparedCells}
use Rattle.ldp_distortion.proofs.Joints.{from_inputs, at_kept, count_of}
use Rattle.ldp_distortion.proofs.CellLoop.{begins, ends_undefined, ends_defined, rises_on, stays_on}
use Rattle.ldp_distortion.proofs.CellLoop.{number_size}
use Rattle.ldp_distortion.proofs.prepared.Prepared.worst_from.Goals as goal
use Rattle.ldp_distortion.proofs.prepared.Prepared.worst_from.Goals.{then-size-value}
use Rattle.ldp_distortion.proofs.prepared.Prepared.worst_from.Goals.{else-size-value}

pub loop-cell-init : goal.loop-cell-init
loop-cell-init c = record {
  same = begins (from_inputs c.args.self.now c.args.inputs.now);
  kept = refl;
  room = refl;
  within = c.requires.some;
  small = omega arith;
}

pub returns-in_default-clause-worst : goal.returns-in_default-clause-worst
returns-in_default-clause-worst c =
    ends_undefined (from_inputs c.args.self.now c.args.inputs.now) c.loop-cell.value
    c.loop-cell.worst c.loop-cell.cell
    (at_kept c.args.self.now c.loop-cell.inputs c.args.inputs.now c.loop-cell.cell None
    c.loop-cell.invariant.kept
    c.in_default.ensures.distortion)
    c.loop-cell.invariant.same

-- the absolute value of the distortion
size_is : (c : goal.Joined-size-value) → c.unsigned_abs-size.result ≡ nat_abs c.in-Some.distortion
size_is c =
    let fits : SFits w128 c.in-Some.distortion = search rules in
    c.unsigned_abs-size.ensures.value ∙ ap nat_abs (to_z-of_z w128 c.in-Some.distortion fits)

pub loop-cell-preserved : goal.loop-cell-preserved
loop-cell-preserved c =
    let ds : List (Option ℤ) = from_inputs c.args.self.now c.args.inputs.now in
    let here : slice_get ds c.loop-cell.cell ≡ Some (Some c.in-Some.distortion) =
    at_kept c.args.self.now c.loop-cell.inputs c.args.inputs.now c.loop-cell.cell
    (Some c.in-Some.distortion) c.loop-cell.invariant.kept
    c.in-Some.ensures.distortion in
    let size : c.unsigned_abs-size.result ≡ nat_abs c.in-Some.distortion = size_is c in
    let bound : nat_abs c.in-Some.distortion ≤ 10000000000000000000 =
    number_size c.in-Some.distortion c.in-Some.ensures.number in
    let count : length ds ≡ length c.args.self.now.results =
    count_of c.args.self.now c.args.inputs.now in
    let below : c.loop-cell.cell < length ds =
    slice_get_within ds c.loop-cell.cell (Some c.in-Some.distortion) here in
    record {
      same = elim c.if-size-value.branch [
        | then-size-value w ↦
            rw (w.value-is, w.worst-is)
            (rises_on ds c.loop-cell.value c.loop-cell.worst c.loop-cell.cell
            c.unsigned_abs-size.result c.in-Some.distortion here
            c.loop-cell.invariant.same size w.if-size-value.true)
        | else-size-value w ↦
            rw (w.value-is, w.worst-is)
            (stays_on ds c.loop-cell.value c.loop-cell.worst c.loop-cell.cell
            c.unsigned_abs-size.result c.in-Some.distortion here
            c.loop-cell.invariant.same size w.if-size-value.false)
      ];
      kept = c.in-Some.ensures.kept ∙ c.loop-cell.invariant.kept;
      room = c.in-Some.ensures.room ∙ c.loop-cell.invariant.room;
      within = elim c.if-size-value.branch
          [ then-size-value w ↦ omega arith | else-size-value w ↦ omega arith ];
      small = elim c.if-size-value.branch
          [ then-size-value w ↦ omega arith | else-size-value w ↦ omega arith ];
    }

pub returns-clause-worst : goal.returns-clause-worst
returns-clause-worst c =
    let small : c.loop-cell.value < 2 ^ hbits w128 = omega (arith, c.loop-cell.invariant.small) in
    let rows : length c.self.inside.table.rows ≡ length c.args.self.now.results =
    ap (λ (p : PreparedCells). length p.results) c.self.view_is in
    let count : length (from_inputs c.args.self.now c.args.inputs.now)
    ≡ length c.args.self.now.results =
    count_of c.args.self.now c.args.inputs.now in
    let end : length (from_inputs c.args.self.now c.args.inputs.now) ≤ c.loop-cell.cell =
    omega arith in
    ap (λ z. Is z c.loop-cell.worst) (to_z_pos w128 c.loop-cell.value small)
    ∙ ends_defined (from_inputs c.args.self.now c.args.inputs.now) c.loop-cell.value
    c.loop-cell.worst c.loop-cell.cell
    end c.loop-cell.invariant.same
