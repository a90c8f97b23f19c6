use Rattle.std.proofs.Common.{[], ◌+◌, ◌≤◌, refl, ap, subst, sym, ◌∙◌, arith}
use Rattle.std.proofs.lemmas.Result.{err_from_is_err_and}
use Rattle.ldp_design.specs.Families.{AreGrids}
use Rattle.ldp_search.specs.Explored.{IsExplored, IsStop}
use Rattle.ldp_search.proofs.Moves.{explored_none, whole_waiting}
use Rattle.ldp_search.proofs.explore.begin_all.Goals as goal

pub returns-in_err-evaluate-clause-fault : goal.returns-in_err-evaluate-clause-fault
returns-in_err-evaluate-clause-fault g c =
    let p = err_from_is_err_and c.from_residual.result c.from_residual.ensures.1 in
    rw (p.1, p.2) (subst (λ q. IsStop q c.args.budget c.in_err-evaluate.field-0.0)
    c.loop-index.invariant.same
    (c.in_err-evaluate.ensures.fault (c.loop-index.index + 1) []
    (whole_waiting _ c.args.grids.now.families c.loop-index.index c.whole.result c.loop-index.state
    (ap (λ q. q.families) c.loop-index.invariant.same ∙ c.requires.grids) c.whole.ensures.value
    c.loop-index.invariant.explored)))

pub loop-index-preserved : goal.loop-index-preserved
loop-index-preserved g c = record {
  explored = subst (λ q. IsExplored q (c.loop-index.index + 1) [] c.evaluate.new.state)
      (sym c.in_ok-evaluate.ensures.same)
      (c.in_ok-evaluate.ensures.next (c.loop-index.index + 1) []
      (whole_waiting _ c.args.grids.now.families c.loop-index.index c.whole.result
      c.loop-index.state
      (ap (λ q. q.families) c.loop-index.invariant.same ∙ c.requires.grids) c.whole.ensures.value
      c.loop-index.invariant.explored));
  within = c.in_ok-evaluate.ensures.within;
  same = c.in_ok-evaluate.ensures.same ∙ c.loop-index.invariant.same;
  asked = omega (arith, c.in_ok-evaluate.ensures.asked);
}

pub loop-index-init : goal.loop-index-init
loop-index-init g c =
    let p = g.B.Bounds.problem c.args.bounds.now in
    let few : 0 ≤ c.args.budget = omega arith in
    record {
      explored = rw c.requires.fresh (explored_none p (g.met.B.Bounds.sound c.args.bounds.now)
          (subst AreGrids (sym c.requires.grids) c.families-index-end.ensures.grids));
      within = rw c.requires.fresh few;
      same = refl;
      asked = omega arith;
    }
