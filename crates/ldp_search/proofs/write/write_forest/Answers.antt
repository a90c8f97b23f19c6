use Rattle.std.proofs.Common.{◌≡◌, ◌≤◌, ◌+◌, ◌∷◌, ◌++◌, length, ap, subst, ◌∙◌, arith}
use Rattle.ldp_search.specs.Written.{trees_of}
use Rattle.ldp_search.specs.Explored.{nodes_of_all}
use Rattle.ldp_search.proofs.Families.{next_written, next_counted, some_counted, all_written}
use Rattle.ldp_search.proofs.write.write_forest.Goals as goal

pub returns-in_err-push-clause-asked : goal.returns-in_err-push-clause-asked
returns-in_err-push-clause-asked g c =
    let p = g.B.Bounds.problem c.args.bounds.now in
    omega (arith, c.loop-index.invariant.asked, some_counted p c.loop-index.index)

pub returns-in_err-push-2-clause-asked : goal.returns-in_err-push-2-clause-asked
returns-in_err-push-2-clause-asked g c =
    let p = g.B.Bounds.problem c.args.bounds.now in
    omega (arith, c.loop-index.invariant.asked, some_counted p c.loop-index.index)

pub returns-in_err-write_tree-clause-asked : goal.returns-in_err-write_tree-clause-asked
returns-in_err-write_tree-clause-asked g c =
    let p = g.B.Bounds.problem c.args.bounds.now in
    let stack = c.in_ok-push-2.ensures
    ∙ ap (λ boxes. c.whole.result ∷ boxes) c.loop-index.invariant.empty in
    let same = c.loop-index.invariant.same in
    let asked = subst (λ q. g.B.Bounds.times c.write_tree.new.bounds ≤ g.B.Bounds.times
    c.loop-index.bounds + nodes_of_all q c.push-in-loop-index.new.self)
    same c.in_err-write_tree.ensures.asked in
    omega (
      arith,
      asked,
      c.loop-index.invariant.asked,
      next_counted p c.args.grids.now.families c.loop-index.index c.whole.result
          c.push-in-loop-index.new.self c.requires.grids c.whole.ensures.value stack,
      some_counted p (c.loop-index.index + 1),
    )

pub loop-index-preserved : goal.loop-index-preserved
loop-index-preserved g c =
    let p = g.B.Bounds.problem c.args.bounds.now in
    let stack = c.in_ok-push-2.ensures
    ∙ ap (λ boxes. c.whole.result ∷ boxes) c.loop-index.invariant.empty in
    let same = c.loop-index.invariant.same in
    let asked = subst (λ q. g.B.Bounds.times c.write_tree.new.bounds ≤ g.B.Bounds.times
    c.loop-index.bounds + nodes_of_all q c.push-in-loop-index.new.self)
    same c.in_ok-write_tree.ensures.asked in
    record {
      trees = next_written p c.args.grids.now.families c.loop-index.index c.whole.result
          c.push-in-loop-index.new.self
          c.loop-index.forest c.push.new.self c.write_tree.new.forest
          c.requires.grids c.whole.ensures.value stack c.loop-index.invariant.trees
          c.in_ok-push.ensures.ok
          (c.in_ok-write_tree.ensures.trees
          ∙ ap (λ q. c.push.new.self ++ trees_of q c.push-in-loop-index.new.self) same);
      empty = c.in_ok-write_tree.ensures.empty;
      same = c.in_ok-write_tree.ensures.same ∙ same;
      asked = omega (
        arith,
        asked,
        c.loop-index.invariant.asked,
        next_counted p c.args.grids.now.families c.loop-index.index c.whole.result
            c.push-in-loop-index.new.self c.requires.grids c.whole.ensures.value stack,
      );
    }

pub returns-clause-forest : goal.returns-clause-forest
returns-clause-forest g c =
    let last : c.loop-index.index ≡ length c.args.grids.now.families = omega arith in
    c.loop-index.invariant.trees ∙ all_written (g.B.Bounds.problem c.args.bounds.now)
    c.args.grids.now.families c.loop-index.index c.requires.grids last

pub returns-clause-asked : goal.returns-clause-asked
returns-clause-asked g c =
    let p = g.B.Bounds.problem c.args.bounds.now in
    omega (arith, c.loop-index.invariant.asked, some_counted p c.loop-index.index)
