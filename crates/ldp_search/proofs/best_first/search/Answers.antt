use Rattle.std.proofs.Common.{◌≤◌, arith, ap, ◌∙◌}
use Rattle.ldp_optimum.specs.Forest.{forest}
use Rattle.ldp_search.proofs.Answered.{none_usable, smallest_found, first_found, shape_found}
use Rattle.ldp_search.proofs.Answered.{usable_found}
use Rattle.ldp_search.proofs.best_first.search.Goals as goal

pub returns-in_default-clause-none : goal.returns-in_default-clause-none
returns-in_default-clause-none g c =
    (λ nodes d e a u. none_usable _ c.args.grids.now.families c.explore.new.state d
    c.in_ok-explore.ensures.done
    c.in_default.is c.requires.grids a u)

pub returns-clause-usable : goal.returns-clause-usable
returns-clause-usable g c =
    rw c.found.ensures (usable_found _ c.explore.new.state c.in-Some.best
    c.in_ok-explore.ensures.done c.in-Some.is)

pub returns-clause-smallest : goal.returns-clause-smallest
returns-clause-smallest g c =
    rw c.found.ensures (smallest_found _ c.explore.new.state c.in-Some.best
    c.in_ok-explore.ensures.done c.in-Some.is
    c.args.grids.now.families c.requires.grids)

pub returns-clause-first : goal.returns-clause-first
returns-clause-first g c =
    rw c.found.ensures (first_found _ c.explore.new.state c.in-Some.best
    c.in_ok-explore.ensures.done c.in-Some.is
    c.args.grids.now.families c.requires.grids)

pub returns-clause-shape : goal.returns-clause-shape
returns-clause-shape g c =
    let p = g.B.Bounds.problem c.args.bounds.now in
    let within : c.explore.new.state.evaluated ≤ c.args.budget =
    omega (arith, c.explore.ensures.within) in
    rw c.found.ensures (shape_found p c.explore.new.state c.in-Some.best
    c.in_ok-explore.ensures.done c.in-Some.is
    c.args.budget c.in_ok-forest.forest within c.requires.few
    (c.in_ok-forest.ensures.forest ∙ ap forest c.in_ok-explore.ensures.same))
