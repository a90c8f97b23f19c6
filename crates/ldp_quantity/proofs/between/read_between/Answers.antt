use Rattle.std.proofs.Common.{◌≤ℤ◌, ◌<ℤ◌, arith, rules, ap, sym, ◌∙◌}
use Rattle.std.proofs.lemmas.Int.{ints, to_z-of_z}
use mir.Val.{SFits}
use mir.Syntax.{w128}
use Rattle.std.specs.Prelude.{Ok, Err}
use Rattle.ldp_quantity.proofs.Readings.{read_inside, read_below, read_above, read_far, unread}
use Rattle.ldp_quantity.proofs.between.read_between.Goals as goal

pub returns-in-Ok-clause-value : goal.returns-in-Ok-clause-value
returns-in-Ok-clause-value c =
    let n : SFits w128 c.in-Ok.n = search rules in
    let low : c.args.low ≤ℤ c.in-Ok.n = omega (arith, ints, c.if-low-n.true) in
    let high : c.in-Ok.n ≤ℤ c.args.high = omega (arith, ints, c.if-n-high.true) in
    ap Ok (to_z-of_z w128 c.in-Ok.n n)
    ∙ read_inside c.args.places c.args.text.now c.args.low c.args.high c.in-Ok.n
    (sym c.in-Ok.ensures.value) low high

pub returns-in-Ok-2-clause-value : goal.returns-in-Ok-2-clause-value
returns-in-Ok-2-clause-value c =
    let high : c.args.high <ℤ c.in-Ok.n = omega (arith, ints, c.if-n-high.false) in
    read_above c.args.places c.args.text.now c.args.low c.args.high c.in-Ok.n
    (sym c.in-Ok.ensures.value) high

pub returns-in-Ok-2-2-clause-value : goal.returns-in-Ok-2-2-clause-value
returns-in-Ok-2-2-clause-value c =
    let low : c.in-Ok.n <ℤ c.args.low = omega (arith, ints, c.if-low-n.false) in
    read_below c.args.places c.args.text.now c.args.low c.args.high c.in-Ok.n
    (sym c.in-Ok.ensures.value) low

pub returns-in-Err-TooLarge-clause-value : goal.returns-in-Err-TooLarge-clause-value
returns-in-Err-TooLarge-clause-value c =
    read_far c.args.places c.args.text.now c.args.low c.args.high c.in-Err-TooLarge.field-0-0
    c.requires.low c.requires.high
    (sym c.in-Err-TooLarge.ensures.value ∙ ap Err c.in-Err-TooLarge.field-0-is)

pub returns-in-Err-NotANumber-clause-value : goal.returns-in-Err-NotANumber-clause-value
returns-in-Err-NotANumber-clause-value c =
    unread c.args.places c.args.text.now c.args.low c.args.high
    (sym c.in-Err-NotANumber.ensures.value ∙ ap Err c.in-Err-NotANumber.field-0-is)
