use Rattle.std.proofs.Common.{◌≡◌, ℕ, List, ◌++◌, take, length, ap, ◌∙◌}
use Rattle.ldp_num.specs.Twins.{TwinPair}
use Rattle.ldp_num.specs.Written.{twin_ops}
use Rattle.ldp_num.specs.StepList.{value_in, first_result}
use Rattle.ldp_series.specs.declared.list.Lists.{Lists}
use Rattle.ldp_stretch.specs.Twins.{hull_twins}
use Rattle.ldp_stretch.proofs.TwinRuns.{first_told}
use Rattle.ldp_stretch.proofs.span.joined.Goals as goal

pub returns-clause-value : goal.returns-clause-value
returns-clause-value c =
    let p = c.args.prepared.now in
    let lists = c.lists-lists.result.now in
    let front : List TwinPair = c.split_at_mut-of_cell.result.0.now in
    let design : List TwinPair = take (length p.lists.design.outs) c.args.inputs.now in
    let outs : c.outs.result.now ≡ p.lists.design.outs =
    c.outs.ensures.outs ∙ ap (λ (l : Lists). l.design.outs) c.lists-lists.ensures.lists in
    let begin : front ≡ design =
    c.split_at_mut-of_cell.ensures.front
    ∙ ap (λ (os : List ℕ). take (length os) c.args.inputs.now) outs in
    let same : front ++ c.put_hull.new.twins ≡ design ++ hull_twins c.args.hull.now =
    ap (λ (xs : List TwinPair). xs ++ c.put_hull.new.twins) begin
    ∙ ap (λ (xs : List TwinPair). design ++ xs) c.put_hull.ensures in
    first_told lists.joint (front ++ c.put_hull.new.twins) (design ++ hull_twins c.args.hull.now)
    c.run_first.result c.run_first.ensures.first same
    ∙ ap (λ (l : Lists). first_result (value_in twin_ops l.joint
    (design ++ hull_twins c.args.hull.now))) c.lists-lists.ensures.lists
