use Rattle.std.proofs.Common.{◌-◌, length, ap, sym, ◌∙◌}
use Rattle.std.proofs.Math.Seq.{drop-cons}
use Rattle.ldp_decimal.specs.Scanned.{rounds_up}
use Rattle.ldp_decimal.proofs.Digits.{drop_behind}
use Rattle.ldp_decimal.proofs.round.is_half_from.Goals as goal

pub returns-then-index-whole-2 : goal.returns-then-index-whole-2
returns-then-index-whole-2 c =
    let at = drop-cons c.args.scanned.now.fraction.now
    (c.args.index - length c.args.scanned.now.whole.now) 0 c.if-index-whole-2.true in
    let behind = drop_behind c.args.index c.args.scanned.now.whole.now
    c.args.scanned.now.fraction.now c.if-index-whole.false in
    sym (ap rounds_up (behind ∙ at))
