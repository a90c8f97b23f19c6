use Rattle.std.proofs.Common.{◌≡◌, ◌++◌, [], ◌∷◌, arith, rules, ap, ◌∙◌}
use Rattle.std.proofs.lemmas.Int.{to_z-of_z}
use mir.Val.{SFits}
use mir.Syntax.{w128}
use Rattle.ldp_distortion.proofs.Runs.{push_more}
use Rattle.ldp_distortion.proofs.table.push_numbers.Goals as goal

pub loop-value-preserved : goal.loop-value-preserved
loop-value-preserved c =
    let fits : SFits w128 c.value-item.result.n = search rules in
    let pushed : c.push.new.self.items ≡ c.loop-value.list.items ++ c.value-item.result.n ∷ [] =
    c.in_ok-push.ensures.items ∙ ap (λ n. c.loop-value.list.items ++ n ∷ [])
    (to_z-of_z w128 c.value-item.result.n fits) in
    push_more c.args.list.now.items c.loop-value.list.items c.push.new.self.items c.args.values.now
    c.loop-value.value-index
    c.value-item.result (omega arith) c.value-item.is pushed c.loop-value.invariant
