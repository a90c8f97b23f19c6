use Rattle.std.proofs.Common.{◌≡◌, length, arith}
use Rattle.ldp_distortion.specs.Rows.{rows}
use Rattle.ldp_distortion.proofs.Rows.{length-rows}
use Rattle.ldp_distortion.proofs.table.Table.len.Goals as goal

pub returns : goal.returns
returns c =
    let table = c.self.inside in
    let count : length (rows table.width table.defined.items table.numbers.items)
    ≡ length table.defined.items =
    length-rows table.width table.defined.items table.numbers.items in
    rw (← c.self.view_is) (omega (arith, c.len.ensures, table.defined.ok.0))
