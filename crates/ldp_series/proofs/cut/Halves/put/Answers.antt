use Rattle.std.proofs.Common.{ap, subst, sym, ◌∙◌, List, ℕ}
use Rattle.std.specs.Prelude.{Option}
use Rattle.ldp_series.specs.Cut.{Parts, IsMoved, Puts}
use Rattle.ldp_series.proofs.Moves.{puts_head, puts_tail}
use Rattle.ldp_series.proofs.cut.Halves.put.Goals as goal

pub returns-in-Some : goal.returns-in-Some
returns-in-Some c =
    let m : IsMoved c.args.stays c.args.self.now.in_head c.args.step c.in-Some.there =
    subst (λ (places : List (Option ℕ)). IsMoved c.args.stays places c.args.step c.in-Some.there)
    (c.deref.ensures.value ∙ ap (λ (h : Parts). h.in_head) c.self.view_is) c.in-Some.ensures in
    subst (Puts c.args.stays c.args.step c.args.self.now) (sym c.in_ok-put_head.ensures)
    (puts_head c.args.stays c.args.step c.in-Some.there c.args.self.now m)

pub returns : goal.returns
returns c =
    let now = c.keep_operands.new.self in
    let m : IsMoved now.inputs now.in_tail c.args.step c.in-Some-moved.there =
    subst (λ (h : Parts). IsMoved h.inputs h.in_tail c.args.step c.in-Some-moved.there)
    c.self-2.view_is
    (subst (λ (places : List (Option ℕ)).
    IsMoved c.self-2.inside.inputs places c.args.step c.in-Some-moved.there)
    c.deref-2.ensures.value c.in-Some-moved.ensures) in
    subst (Puts c.args.stays c.args.step c.args.self.now) (sym c.in_ok-put_tail.ensures)
    (puts_tail c.args.stays c.args.step c.in-Some-moved.there c.args.self.now now
    c.in_ok-keep_operands.ensures m)
