use Rattle.std.proofs.Common.{◌≡◌, ◌+◌, drop, None, sym, ap, ◌∙◌, arith}
use Rattle.ldp_design.specs.Families.{AreGrids}
use Rattle.ldp_design.specs.Forests.{Place, after}
use Rattle.ldp_problem.specs.Problem.{Problem}
use Rattle.ldp_check.specs.Entries.{fault_at, first_fault}
use Rattle.ldp_check.specs.Stacks.{place}
use Rattle.ldp_check.proofs.Answered.{none_gives}
use Rattle.ldp_check.proofs.Nodes.{few_entries}
use Rattle.ldp_check.proofs.Walks.{turn_found, turn_next, no_fault, place_next}
use Rattle.ldp_check.proofs.walk.first_fault.Goals as goal

pub overflow_cast-line : goal.overflow_cast-line
overflow_cast-line g c = omega (arith, few_entries c.args.forest.now c.requires.forest)

pub overflow_add-line : goal.overflow_add-line
overflow_add-line g c = omega (arith, few_entries c.args.forest.now c.requires.forest)

pub returns-then-is_some-clause-fault : goal.returns-then-is_some-clause-fault
returns-then-is_some-clause-fault g c =
    let p : Problem = g.B.Bounds.problem c.args.bounds.now in
    let at : Place = place c.loop-i.trees c.loop-i.stack in
    let fault : c.step-fault.result ≡ fault_at p c.args.printed (c.args.first + c.loop-i.i)
    c.get.result at =
    c.step-fault.ensures.fault
    ∙ ap (λ (q : Problem). fault_at q c.args.printed (c.args.first + c.loop-i.i) c.get.result at)
    c.loop-i.invariant.same in
    let found : c.step-fault.result ≡ first_fault p c.args.printed (c.args.first + c.loop-i.i)
    (drop c.loop-i.i c.args.forest.now) at =
    turn_found p c.args.printed (c.args.first + c.loop-i.i) c.loop-i.i c.args.forest.now
    c.get.result at c.step-fault.result
    c.get.ensures fault (sym c.is_some.ensures ∙ c.if-is_some.true) in
    found ∙ c.loop-i.invariant.rest

pub loop-i-preserved : goal.loop-i-preserved
loop-i-preserved g c =
    let p : Problem = g.B.Bounds.problem c.args.bounds.now in
    let at : Place = place c.loop-i.trees c.loop-i.stack in
    let none : c.step-fault.result ≡ None =
    no_fault c.step-fault.result (sym c.is_some.ensures ∙ c.if-is_some.false) in
    let fine : fault_at p c.args.printed (c.args.first + c.loop-i.i) c.get.result at ≡ None =
    ap (λ (q : Problem). fault_at q c.args.printed (c.args.first + c.loop-i.i) c.get.result at)
    (sym c.loop-i.invariant.same)
    ∙ sym c.step-fault.ensures.fault ∙ none in
    let next : place c.step-fault.new.trees c.step-fault.new.stack ≡ after p.families c.get.result
    at =
    none_gives c.step-fault.result _ none c.step-fault.ensures.next
    ∙ ap (λ fs. after fs c.get.result at) (sym c.requires.families) in
    let grids : AreGrids p.families = rw c.requires.families c.families-families.ensures.grids in
    record {
      rest =
          turn_next p c.args.printed (c.args.first + c.loop-i.i) (c.args.first + (c.loop-i.i + 1))
          c.loop-i.i c.args.forest.now
          c.get.result at (place c.step-fault.new.trees c.step-fault.new.stack) c.get.ensures fine
          (omega arith) next
          ∙ c.loop-i.invariant.rest;
      at = rw next
          (place_next p c.args.printed (c.args.first + c.loop-i.i) c.loop-i.i c.get.result at grids
          c.loop-i.invariant.at fine);
      room = c.step-fault.ensures.room ∙ c.loop-i.invariant.room;
      end = c.loop-i.invariant.end;
      same = c.step-fault.ensures.same ∙ c.loop-i.invariant.same;
    }
