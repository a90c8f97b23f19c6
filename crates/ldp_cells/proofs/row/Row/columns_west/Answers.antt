use Rattle.std.proofs.Common.{◌≡◌, ◌≤◌, ◌*◌, ◌∙◌, ◌-ℤ◌, unsigned_abs, to_z, of_z, int_lt, pos}
use Rattle.std.proofs.Common.{sym, ap, arith}
use Rattle.std.specs.Int.{w128}
use Rattle.std.proofs.lemmas.Int.{ints}
use Rattle.ldp_cells.proofs.Columns.{apart}
use Rattle.ldp_cells.proofs.row.Row.columns_west.Goals as goal

pub columns_before-requires-clause-step : goal.columns_before-requires-clause-step
columns_before-requires-clause-step c =
    let rise : 1 ≤ c.abs_diff-rise.result = omega (arith, ints) in
    let spacing : 1 ≤ c.from.result = omega arith in
    grind arith

pub returns-clause-value : goal.returns-clause-value
returns-clause-value c = λ column within.
    let row = c.args.self.now in
    let edge = c.args.edge.now in
    let rise = c.abs_diff-rise.result in
    let is : rise ≡ unsigned_abs (edge.start.y -ℤ edge.end.y) = omega (arith, ints) in
    let steps = apart row edge rise c.requires.rise is in
    let back : to_z w128 (of_z w128 c.gap.result) ≡ c.gap.result = omega (arith, ints) in
    let west = simp (c.from.ensures, back)
    at (c.columns_before.ensures.value column within) in
    let n = column * (row.spacing * rise) in
    west ∙ ap (int_lt (pos n)) c.gap.ensures.value ∙ sym (steps.meets column)
