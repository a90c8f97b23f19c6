use Rattle.std.proofs.Common.{◌≡◌, true, false, ap, ◌∙◌, rules}
use Rattle.std.specs.Prelude.{unsigned_abs}
use Rattle.std.proofs.lemmas.Int.{to_z-of_z}
use Rattle.std.proofs.lemmas.Result.{on_ok_weaker}
use mir.Val.{SFits}
use mir.Syntax.{w128}
use Rattle.ldp_problem.specs.Pairs.{is_smaller}
use Rattle.ldp_search.proofs.Writing.{writes_unusable, writes_above, above_shown}
use Rattle.ldp_search.proofs.Singles.{unusable_said, low_said}
use Rattle.ldp_search.proofs.write.write_box.Goals as goal

pub returns-in-Unusable-clause-writes : goal.returns-in-Unusable-clause-writes
returns-in-Unusable-clause-writes g c =
    on_ok_weaker c.push.result
    (λ pushed. writes_unusable _ c.args.b.now c.in-Unusable.cell c.args.stack.now c.args.forest.now
    _
    (unusable_said _ c.args.b.now c.in-Unusable.cell c.in-Unusable.ensures.value) pushed)
    c.push.ensures.ok

pub returns-then-lt-clause-writes : goal.returns-then-lt-clause-writes
returns-then-lt-clause-writes g c =
    let fits : SFits w128 c.in-Low.value = search rules in
    let low = low_said _ c.args.b.now c.in-Low.over c.in-Low.value c.in-Low.cell
    c.in-Low.ensures.value in
    let size : c.unsigned_abs.result ≡ unsigned_abs c.in-Low.value =
    c.unsigned_abs.ensures.value ∙ ap unsigned_abs (to_z-of_z w128 c.in-Low.value fits) in
    let smaller : is_smaller c.args.cost
    (record { over = c.in-Low.over; value = c.unsigned_abs.result }) ≡ true =
    search rules in
    let above = above_shown _ c.args.b.now c.in-Low.over c.in-Low.value c.in-Low.cell c.args.cost
    c.unsigned_abs.result true
    low c.requires.least size smaller in
    on_ok_weaker c.push-then-lt.result
    (λ pushed. writes_above _ c.args.b.now c.in-Low.cell c.args.stack.now c.args.forest.now _
    low.usable above low.cell pushed)
    c.push-then-lt.ensures.ok

pub returns-else-lt-clause-writes : goal.returns-else-lt-clause-writes
returns-else-lt-clause-writes g c =
    let fits : SFits w128 c.in-Low.value = search rules in
    let low = low_said _ c.args.b.now c.in-Low.over c.in-Low.value c.in-Low.cell
    c.in-Low.ensures.value in
    let size : c.unsigned_abs.result ≡ unsigned_abs c.in-Low.value =
    c.unsigned_abs.ensures.value ∙ ap unsigned_abs (to_z-of_z w128 c.in-Low.value fits) in
    let smaller : is_smaller c.args.cost
    (record { over = c.in-Low.over; value = c.unsigned_abs.result }) ≡ false =
    search rules in
    let below = above_shown _ c.args.b.now c.in-Low.over c.in-Low.value c.in-Low.cell c.args.cost
    c.unsigned_abs.result false
    low c.requires.least size smaller in
    on_ok_weaker c.write_open.result
    (λ writes. writes _ c.requires.families
    (record { usable = low.usable; below = below; at = low.cell }))
    c.write_open.ensures.writes
