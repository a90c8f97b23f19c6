use Rattle.std.proofs.Common.{◌≡◌, true, false, sym, ◌∙◌, ap, rules}
use Rattle.std.specs.Prelude.{unsigned_abs}
use Rattle.std.proofs.lemmas.Int.{to_z-of_z}
use Rattle.std.proofs.lemmas.Result.{on_ok_weaker}
use mir.Val.{SFits}
use mir.Syntax.{w128}
use Rattle.ldp_search.proofs.Taken.{taken_unusable, taken_single, taken_several}
use Rattle.ldp_search.proofs.state.State.take.Goals as goal

pub returns-in-Unusable-clause-next : goal.returns-in-Unusable-clause-next
returns-in-Unusable-clause-next c =
    (λ p e. taken_unusable p c.args.b.now c.in-Unusable.cell c.args.self.now (sym c.in-Unusable.is
    ∙ e))

pub returns-then-is_single-clause-next : goal.returns-then-is_single-clause-next
returns-then-is_single-clause-next c =
    let fits : SFits w128 c.in-Low.value = search rules in
    (λ p e. rw (c.better_of.ensures, c.first.ensures.value, to_z-of_z w128 c.in-Low.value fits)
    (taken_single p c.args.b.now c.in-Low.over c.in-Low.value c.in-Low.cell c.args.self.now
    (sym c.in-Low.is ∙ e) (sym c.if-is_single.ensures.value)))

pub returns-else-is_single-clause-next : goal.returns-else-is_single-clause-next
returns-else-is_single-clause-next c =
    let fits : SFits w128 c.in-Low.value = search rules in
    let size : c.unsigned_abs.result ≡ unsigned_abs c.in-Low.value =
    c.unsigned_abs.ensures.value ∙ ap unsigned_abs (to_z-of_z w128 c.in-Low.value fits) in
    let keep = rw size at c.keep.ensures in
    on_ok_weaker c.keep.result (λ advances p e. advances p (sym c.in-Low.is ∙ e))
    (taken_several c.keep.result c.args.b.now c.in-Low.over c.in-Low.value c.in-Low.cell
    c.args.self.now c.keep.new.self
    (λ one. let contrary : false ≡ true = c.if-is_single.ensures.single.1 one in cc)
    keep.closed keep.splittable keep.best keep.evaluated)
