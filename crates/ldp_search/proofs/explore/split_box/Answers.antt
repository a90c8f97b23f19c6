use Rattle.std.proofs.Common.{[], ◌∷◌, subst}
use Rattle.std.proofs.lemmas.Result.{err_from_is_err_and}
use Rattle.ldp_search.specs.Explored.{IsWaiting, IsStop}
use Rattle.ldp_search.proofs.Chosen.{parts_waiting, second_waiting}
use Rattle.ldp_search.proofs.explore.split_box.Goals as goal

pub returns-in_err-evaluate-clause-fault : goal.returns-in_err-evaluate-clause-fault
returns-in_err-evaluate-clause-fault g c =
    let p = err_from_is_err_and c.from_residual.result c.from_residual.ensures.1 in
    rw (p.1, p.2) (c.in_err-evaluate.ensures.fault _ (c.in-Some.high ∷ [])
    (parts_waiting _ c.args.grids.now.families c.args.b.now c.args.state.now c.split.result
    c.in-Some.low
    c.in-Some.high
    c.requires.ready c.requires.grids c.split.ensures.value c.in-Some.is))

pub returns-in_err-evaluate-2-clause-fault : goal.returns-in_err-evaluate-2-clause-fault
returns-in_err-evaluate-2-clause-fault g c =
    let p = err_from_is_err_and c.from_residual-in_err-evaluate-2.result
    c.from_residual-in_err-evaluate-2.ensures.1 in
    rw (p.1, p.2) (subst (λ q. IsStop q c.args.budget c.in_err-evaluate-2.field-0.0)
    c.in_ok-evaluate.ensures.same
    (c.in_err-evaluate-2.ensures.fault _ []
    (second_waiting _ _ c.in-Some.low c.in-Some.high c.args.state.now c.evaluate.new.state
    c.in_ok-evaluate.ensures.same
    c.in_ok-evaluate.ensures.next
    (parts_waiting _ c.args.grids.now.families c.args.b.now c.args.state.now c.split.result
    c.in-Some.low
    c.in-Some.high
    c.requires.ready c.requires.grids c.split.ensures.value c.in-Some.is))))

pub returns-in_ok-evaluate-2-clause-next : goal.returns-in_ok-evaluate-2-clause-next
returns-in_ok-evaluate-2-clause-next g c =
    subst (λ q. IsWaiting q c.evaluate-in-Some.new.state) c.in_ok-evaluate.ensures.same
    (c.in_ok-evaluate-2.ensures.next _ []
    (second_waiting _ _ c.in-Some.low c.in-Some.high c.args.state.now c.evaluate.new.state
    c.in_ok-evaluate.ensures.same
    c.in_ok-evaluate.ensures.next
    (parts_waiting _ c.args.grids.now.families c.args.b.now c.args.state.now c.split.result
    c.in-Some.low
    c.in-Some.high
    c.requires.ready c.requires.grids c.split.ensures.value c.in-Some.is)))
