use Rattle.ldp_num.specs.Ranges.{pair_add}
use Rattle.ldp_range.proofs.Unlisted.{unlisted}
use Rattle.ldp_range.proofs.twin.TwinNum.add.Goals as goal

pub returns : goal.returns
returns c =
    let low = unlisted c.add.result (pair_add c.self.inside.low c.other.inside.low) c.add.ensures in
    let high = unlisted c.add-2.result (pair_add c.self.inside.high c.other.inside.high)
    c.add-2.ensures in
    rw (← c.self.view_is, ← c.other.view_is, c.joined.ensures, low, high)
