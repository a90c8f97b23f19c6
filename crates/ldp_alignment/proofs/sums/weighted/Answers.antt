use Rattle.std.proofs.Common.{◌≡◌, pos, ◌*ℤ◌, rules, ap, ◌∙◌}
use mir.Val.{to_z, of_z}
use mir.Syntax.{w128}
use Rattle.ldp_alignment.proofs.Bounds.{bounded_one, product_back}
use Rattle.ldp_alignment.proofs.sums.weighted.Goals as goal

pub returns-clause-bounded : goal.returns-clause-bounded
returns-clause-bounded c =
    let w = c.args.weight in
    let m = c.args.mm in
    let pw : to_z w128 w ≡ pos w = search rules in
    let pm : to_z w128 (of_z w128 c.from.result) ≡ m = search rules in
    let product = ap (λ z. z *ℤ to_z w128 (of_z w128 c.from.result)) pw ∙ ap (λ z. pos w *ℤ z) pm in
    let ph = ap (λ z. to_z w128 (of_z w128 z)) product
    ∙ product_back w m c.requires.weight c.requires.height in
    bounded_one w m _ _ c.requires.weight c.requires.height pw ph
