use Rattle.ldp_num.specs.Ranges.{pair_sub}
use Rattle.ldp_range.proofs.Unlisted.{unlisted}
use Rattle.ldp_range.proofs.twin.TwinNum.sub.Goals as goal

pub returns : goal.returns
returns c =
    let low = unlisted c.sub.result (pair_sub c.self.inside.low c.other.inside.high)
    c.sub.ensures in
    let high = unlisted c.sub-2.result (pair_sub c.self.inside.high c.other.inside.low)
    c.sub-2.ensures in
    rw (← c.self.view_is, ← c.other.view_is, c.joined.ensures, low, high)
