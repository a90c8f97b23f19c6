use Rattle.std.proofs.Common.{refl, sym}
use Rattle.ldp_search.proofs.Chosen.{none_chosen, above_chosen, chosen_ready}
use Rattle.ldp_search.proofs.state.State.choose.Goals as goal

pub returns-in_default-clause-done : goal.returns-in_default-clause-done
returns-in_default-clause-done c =
    (λ p x. none_chosen p c.args.self.now _ x c.in_default.ensures.none refl refl)

pub returns-then-is_closed-clause-done : goal.returns-then-is_closed-clause-done
returns-then-is_closed-clause-done c =
    (λ p x. above_chosen p c.in-Some.b c.args.self.now _ x c.in-Some.ensures.some
    c.in-Some.ensures.least refl refl (sym c.if-is_closed.ensures))

pub returns-clause-ready : goal.returns-clause-ready
returns-clause-ready c =
    (λ p x. chosen_ready p c.in-Some.b c.args.self.now _ x c.in-Some.ensures.some
    c.in-Some.ensures.least refl refl (sym c.if-is_closed.ensures))
