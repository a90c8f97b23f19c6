use Rattle.std.proofs.Common.{◌≡◌, ap, sym, ◌∙◌, length, take, arith, List, ℕ, below_more}
use Rattle.std.specs.Prelude.{Some, Option, unwrap_or}
use Rattle.std.specs.Option.{is_none}
use Rattle.ldp_num.specs.declared.fix.Fix.{Fix}
use Rattle.ldp_distortion.specs.Inputs.{numbers}
use Rattle.ldp_bound.specs.Kept.{size_from}
use Rattle.ldp_bound.specs.Summary.{cost_over}
use Rattle.ldp_bound.proofs.Loops.{told_more, told_sizes, unusable_at, usable_over}
use Rattle.ldp_bound.proofs.sizes.told.Goals as goal

pub loop-cell-preserved : goal.loop-cell-preserved
loop-cell-preserved c =
    let so_far = c.loop-cell.invariant in
    let p = c.args.prepared.now in
    let sizes : ℕ → Option ℕ =
    size_from p (numbers (take (length p.lists.design.outs) c.args.inputs.now)) in
    let here : Some c.in-Some.size ≡ sizes c.loop-cell.cell =
    c.in-Some.ensures.value
    ∙ ap (λ (front : List Fix). size_from p (numbers front) c.loop-cell.cell) so_far.kept in
    record {
      told =
          told_more (told_sizes sizes) c.args.kept.now.tolerance c.loop-cell.cell
          c.in-Some.size c.loop-cell.tally c.with-tally.result c.with-tally.ensures.value
          so_far.told
          (ap (λ (o : Option ℕ). unwrap_or o 0) here);
      defined = below_more _ _ so_far.defined (sym (ap is_none here));
      kept = c.in-Some.ensures.kept ∙ so_far.kept;
      room = c.in-Some.ensures.room ∙ so_far.room;
      over = omega (arith, c.with-tally.ensures.over, so_far.over);
      small = omega (arith, c.with-tally.ensures.most, c.in-Some.ensures.small, so_far.small);
    }

pub returns-in_default-clause-value : goal.returns-in_default-clause-value
returns-in_default-clause-value c =
    let so_far = c.loop-cell.invariant in
    let p = c.args.prepared.now in
    unusable_at c.args.kept.now.tolerance
    (size_from p (numbers (take (length p.lists.design.outs) c.args.inputs.now)))
    c.args.kept.now.count c.loop-cell.cell (omega arith) so_far.defined
    (sym (c.in_default.ensures.value
    ∙ ap (λ (front : List Fix). size_from p (numbers front) c.loop-cell.cell) so_far.kept))

pub returns-clause-value : goal.returns-clause-value
returns-clause-value c =
    let so_far = c.loop-cell.invariant in
    let p = c.args.prepared.now in
    let end : c.loop-cell.cell ≡ c.args.kept.now.count = omega arith in
    let sizes : ℕ → Option ℕ =
    size_from p (numbers (take (length p.lists.design.outs) c.args.inputs.now)) in
    c.cost.ensures.value
    ∙ usable_over c.args.kept.now.tolerance sizes c.loop-cell.cell c.loop-cell.tally so_far.defined
    so_far.told
    ∙ ap (cost_over c.args.kept.now.tolerance sizes) end
