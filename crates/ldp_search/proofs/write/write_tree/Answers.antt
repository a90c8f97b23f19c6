use Rattle.std.proofs.Common.{◌≤◌, refl, sym, subst, ◌∙◌, arith}
use Rattle.ldp_design.specs.Families.{AreGrids}
use Rattle.ldp_search.specs.Explored.{nodes_of}
use Rattle.ldp_search.specs.Written.{Writes}
use Rattle.ldp_search.proofs.Counts.{some_nodes}
use Rattle.ldp_search.proofs.Writing.{next_lies, rest_lie, trees_more, nodes_more}
use Rattle.ldp_search.proofs.write.write_tree.Goals as goal

pub write_box-requires-clause-lies : goal.write_box-requires-clause-lies
write_box-requires-clause-lies g c =
    next_lies (g.B.Bounds.problem c.args.bounds.now) c.args.grids.now.families c.in-Some.b
    c.loop-b.stack
    c.pop.new.self
    c.requires.families c.in-Some.ensures.some c.loop-b.invariant.lies

pub returns-in_err-write_box-clause-asked : goal.returns-in_err-write_box-clause-asked
returns-in_err-write_box-clause-asked g c =
    let p = g.B.Bounds.problem c.args.bounds.now in
    let some : 1 ≤ nodes_of p c.in-Some.b =
    some_nodes p c.in-Some.b (subst AreGrids (sym c.requires.families) c.requires.grids)
    (next_lies p p.families c.in-Some.b c.loop-b.stack c.pop.new.self refl c.in-Some.ensures.some
    c.loop-b.invariant.lies) in
    omega (
      arith,
      some,
      nodes_more p c.in-Some.b c.loop-b.stack c.pop.new.self c.in-Some.ensures.some,
      c.in_err-write_box.ensures.asked,
    )

pub loop-b-preserved : goal.loop-b-preserved
loop-b-preserved g c =
    let p = g.B.Bounds.problem c.args.bounds.now in
    let writes : Writes p c.in-Some.b c.pop.new.self c.write_box.new.stack c.loop-b.forest
    c.write_box.new.forest =
    subst (λ q. Writes q c.in-Some.b c.pop.new.self c.write_box.new.stack c.loop-b.forest
    c.write_box.new.forest)
    c.loop-b.invariant.same c.in_ok-write_box.ensures.writes in
    record {
      trees = trees_more p c.in-Some.b c.loop-b.stack c.pop.new.self c.write_box.new.stack
          c.loop-b.forest
          c.write_box.new.forest c.in-Some.ensures.some writes ∙ c.loop-b.invariant.trees;
      lies = writes.lies (rest_lie p c.in-Some.b c.loop-b.stack c.pop.new.self
          c.in-Some.ensures.some c.loop-b.invariant.lies);
      same = c.in_ok-write_box.ensures.same ∙ c.loop-b.invariant.same;
      asked = omega (
        arith,
        c.in_ok-write_box.ensures.asked,
        writes.nodes,
        nodes_more p c.in-Some.b c.loop-b.stack c.pop.new.self c.in-Some.ensures.some,
      );
    }
