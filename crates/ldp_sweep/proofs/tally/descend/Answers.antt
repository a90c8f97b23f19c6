use Rattle.std.proofs.Common.{◌≡◌, ◌≤◌, ◌+◌, ◌-◌, sym, ap, refl, subst, ◌∙◌, arith}
use Rattle.std.proofs.lemmas.Option.{IfSome_then}
use Rattle.ldp_sweep.specs.declared.stretch.Stretch.{Stretch}
use Rattle.ldp_sweep.specs.declared.tally.Tally.{Tally}
use Rattle.ldp_sweep.specs.Cut.{Cut, IsNode, start}
use Rattle.ldp_sweep.specs.Tally.{number_at}
use Rattle.ldp_sweep.specs.Peaks.{IsTally, IsPassed}
use Rattle.ldp_sweep.proofs.Values.{over_at_most}
use Rattle.ldp_sweep.proofs.Nodes.{start_above}
use Rattle.ldp_sweep.proofs.Tallies.{tally_passed}
use Rattle.ldp_sweep.proofs.tally.descend.Goals as goal

pub passed-requires : goal.passed-requires
passed-requires g c =
    (c.requires.cut.each (c.args.height - 1) c.node_at-node.result c.node_at-node.ensures).ordered

pub overflow_add-tally : goal.overflow_add-tally
overflow_add-tally g c =
    let cut : Cut = g.S.Sweep.cut c.args.sweep.now in
    let node : Stretch = c.node_at-node.result in
    let from : start cut.cells cut.nodes c.args.height ≡ node.from =
    start_above cut.cells cut.nodes c.args.height node c.requires.some c.node_at-node.ensures in
    let known : IsTally cut c.args.tolerance node.from c.args.tally.now =
    subst (λ n. IsTally cut c.args.tolerance n c.args.tally.now) from c.requires.tally in
    let passed : IsPassed cut.value c.args.tolerance node c.args.tally.now.peak c.in-Some.more =
    c.in-Some.ensures cut.value
    (IfSome_then c.span-span.result c.span-span.ensures.within
    (λ span within. within node c.node_at-node.ensures)) in
    omega (
      arith,
      known.over,
      passed.over,
      over_at_most (number_at cut.value) c.args.tolerance node.to,
      c.node_at-node.type_inv,
    )

pub returns-in-Some-clause-left : goal.returns-in-Some-clause-left
returns-in-Some-clause-left g c =
    omega (
      arith,
      (c.requires.cut.each (c.args.height - 1) c.node_at-node.result
          c.node_at-node.ensures).skips_back,
    )

pub returns-in-Some-clause-tally : goal.returns-in-Some-clause-tally
returns-in-Some-clause-tally g c =
    let cut : Cut = g.S.Sweep.cut c.args.sweep.now in
    let node : Stretch = c.node_at-node.result in
    let from : start cut.cells cut.nodes c.args.height ≡ node.from =
    start_above cut.cells cut.nodes c.args.height node c.requires.some c.node_at-node.ensures in
    let known : IsTally cut c.args.tolerance node.from c.args.tally.now =
    subst (λ n. IsTally cut c.args.tolerance n c.args.tally.now) from c.requires.tally in
    let passed : IsPassed cut.value c.args.tolerance node c.args.tally.now.peak c.in-Some.more =
    c.in-Some.ensures cut.value
    (IfSome_then c.span-span.result c.span-span.ensures.within
    (λ span within. within node c.node_at-node.ensures)) in
    let new : Tally = record {
      over = c.args.tally.now.over + c.in-Some.more;
      peak = c.args.tally.now.peak;
    } in
    let behind : start cut.cells cut.nodes node.skip ≡ node.to =
    (c.requires.cut.each (c.args.height - 1) node c.node_at-node.ensures).behind in
    subst (λ n. IsTally cut c.args.tolerance n new) (sym behind)
    (tally_passed cut c.args.tolerance node c.args.tally.now new c.in-Some.more known passed refl
    refl)

pub returns-then-node-at-clause-tally : goal.returns-then-node-at-clause-tally
returns-then-node-at-clause-tally g c =
    let cut : Cut = g.S.Sweep.cut c.args.sweep.now in
    let node : Stretch = c.node_at-node.result in
    let from : start cut.cells cut.nodes c.args.height ≡ node.from =
    start_above cut.cells cut.nodes c.args.height node c.requires.some c.node_at-node.ensures in
    let parts : start cut.cells cut.nodes (c.args.height - 1) ≡ node.from =
    (c.requires.cut.each (c.args.height - 1) node c.node_at-node.ensures).parts c.if-node-at.true in
    subst (λ n. IsTally cut c.args.tolerance n c.args.tally.now) (from ∙ sym parts)
    c.requires.tally

pub look_at-requires-clause-ordered : goal.look_at-requires-clause-ordered
look_at-requires-clause-ordered g c =
    (c.requires.cut.each (c.args.height - 1) c.node_at-node.result c.node_at-node.ensures).ordered

pub look_at-requires-clause-inside : goal.look_at-requires-clause-inside
look_at-requires-clause-inside g c =
    subst (λ (now : Cut). c.node_at-node.result.to ≤ now.cells) (sym c.span-span.ensures.same)
    (c.requires.cut.each (c.args.height - 1) c.node_at-node.result c.node_at-node.ensures).inside

pub look_at-requires-clause-tally : goal.look_at-requires-clause-tally
look_at-requires-clause-tally g c =
    let cut : Cut = g.S.Sweep.cut c.args.sweep.now in
    let node : Stretch = c.node_at-node.result in
    let from : start cut.cells cut.nodes c.args.height ≡ node.from =
    start_above cut.cells cut.nodes c.args.height node c.requires.some c.node_at-node.ensures in
    subst (λ (now : Cut). IsTally now c.args.tolerance node.from c.args.tally.now)
    (sym c.span-span.ensures.same)
    (subst (λ n. IsTally cut c.args.tolerance n c.args.tally.now) from c.requires.tally)

pub returns-clause-tally : goal.returns-clause-tally
returns-clause-tally g c =
    let cut : Cut = g.S.Sweep.cut c.args.sweep.now in
    let node : Stretch = c.node_at-node.result in
    let known : IsNode cut.cells cut.nodes (c.args.height - 1) node =
    c.requires.cut.each (c.args.height - 1) node c.node_at-node.ensures in
    let here : c.args.height - 1 ≡ node.skip =
    omega (arith, known.skips_back, c.if-node-at.false) in
    let behind : start cut.cells cut.nodes (c.args.height - 1) ≡ node.to =
    ap (start cut.cells cut.nodes) here ∙ known.behind in
    subst (λ n. IsTally cut c.args.tolerance n c.look_at.new.tally) (sym behind)
    (subst (λ (now : Cut). IsTally now c.args.tolerance node.to c.look_at.new.tally)
    c.span-span.ensures.same c.in_ok-look_at.ensures.tally)
