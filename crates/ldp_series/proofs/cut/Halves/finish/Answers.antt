use Rattle.std.proofs.Common.{◌≡◌, ◌+◌, ◌≤◌, length, rules, ap, subst, sym, ◌∙◌}
use Rattle.ldp_num.specs.Steps.{most_steps, most_inputs, most_results}
use Rattle.ldp_series.specs.Cut.{Parts, AreParts, AreMoved}
use Rattle.ldp_series.proofs.Moves.{head_list, tail_list, is_cut}
use Rattle.ldp_series.proofs.cut.Halves.finish.Goals as goal

pub new-head-requires : goal.new-head-requires
new-head-requires c =
    let h = c.self.inside in
    let few_inputs : c.args.stays ≤ most_inputs = search rules in
    let few_outs : length h.kept.items ≤ most_results = search rules in
    let small : length h.head.items ≤ most_steps = search rules in
    head_list c.args.stays c.args.list.now.steps _
    (subst (AreParts c.args.stays c.args.list.now.steps) (sym c.self.view_is) c.requires.parts)
    few_inputs few_outs small

pub new-tail-requires : goal.new-tail-requires
new-tail-requires c =
    let h = c.self.inside in
    let list = c.args.list.now in
    let count : length h.kept.items ≡ c.len.result = search rules in
    let same : h.inputs ≡ list.inputs = ap (λ (p : Parts). p.inputs) c.self.view_is
    ∙ c.requires.inputs in
    let few_outs : length c.args.outs.items ≤ most_results = search rules in
    let few_inputs : list.inputs + length h.kept.items ≤ most_inputs = search rules in
    let small : length h.tail.items ≤ most_steps = search rules in
    rw (c.inputs.ensures.inputs, ← count)
    (tail_list c.args.stays list _ c.args.outs.items
    (subst (AreParts c.args.stays list.steps) (sym c.self.view_is) c.requires.parts)
    (subst (λ (p : Parts). AreMoved p.in_tail list.outs c.args.outs.items) (sym c.self.view_is)
    c.requires.outs)
    same few_outs few_inputs small)

pub returns : goal.returns
returns c =
    let h = c.self.inside in
    let list = c.args.list.now in
    let count : length h.kept.items ≡ c.len.result = search rules in
    let same : h.inputs ≡ list.inputs = ap (λ (p : Parts). p.inputs) c.self.view_is
    ∙ c.requires.inputs in
    rw (c.new-head.ensures, c.new-tail.ensures, c.inputs.ensures.inputs, ← count)
    (is_cut c.args.stays list _ c.args.outs.items
    (subst (AreParts c.args.stays list.steps) (sym c.self.view_is) c.requires.parts)
    (subst (λ (p : Parts). AreMoved p.in_tail list.outs c.args.outs.items) (sym c.self.view_is)
    c.requires.outs)
    same)
