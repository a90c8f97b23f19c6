use Rattle.std.proofs.Common.{arith}
use Rattle.std.specs.Int.{w128}
use Rattle.std.proofs.lemmas.Int.{ints, to_z-of_z}
use Rattle.ldp_cells.proofs.Columns.{before}
use Rattle.ldp_cells.proofs.row.Row.columns_before.Goals as goal

pub overflow_cast-result : goal.overflow_cast-result
overflow_cast-result c =
    let e = c.min.ensures in
    let f = c.from.ensures in
    omega (arith, c.requires.range.cols)

pub returns-clause-value : goal.returns-clause-value
returns-clause-value c =
    let d = to_z-of_z w128 c.args.distance c.ranges.distance in
    let west = simp (d, c.from.ensures) at c.min.ensures in
    before c.args.self.now.cols c.args.step c.min.result c.args.distance c.requires.step
    (omega (arith, ints)) west
