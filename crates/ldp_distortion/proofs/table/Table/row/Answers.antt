use Rattle.std.proofs.Common.{◌≡◌, ◌<◌, ◌≤◌, ◌+◌, ◌*◌, length, arith, ap}
use Rattle.ldp_distortion.proofs.Rows.{row_within, row_fits, row_undefined, row_defined}
use Rattle.ldp_distortion.proofs.table.Table.row.Goals as goal

pub index-requires : goal.index-requires
index-requires c =
    let table = c.self.inside in
    let within : c.args.cell < length table.defined.items =
    row_within table.width table.defined.items table.numbers.items c.args.self.now c.args.cell
    c.self.view_is c.requires in
    omega (arith, table.defined.ok.0)

pub returns-then-not-index-clause-row : goal.returns-then-not-index-clause-row
returns-then-not-index-clause-row c =
    let table = c.self.inside in
    let within : c.args.cell < length table.defined.items =
    row_within table.width table.defined.items table.numbers.items c.args.self.now c.args.cell
    c.self.view_is c.requires in
    rw (← c.self.view_is)
    (row_undefined table.width table.defined.items table.numbers.items c.args.cell
    c.index.result.now within c.index.ensures
    c.if-not-index.true)

pub slice_bounds-result-end : goal.slice_bounds-result-end
slice_bounds-result-end c =
    let table = c.self.inside in
    let within : c.args.cell < length table.defined.items =
    row_within table.width table.defined.items table.numbers.items c.args.self.now c.args.cell
    c.self.view_is c.requires in
    let fits : c.args.cell * table.width + table.width ≤ length table.numbers.items =
    row_fits table.width (length table.defined.items) c.args.cell table.numbers.items within
    c.self.invariant.full in
    let part : length c.deref.result.now ≡ length table.numbers.items =
    ap length c.deref.ensures.value in
    omega arith

pub returns-clause-row : goal.returns-clause-row
returns-clause-row c =
    let table = c.self.inside in
    let within : c.args.cell < length table.defined.items =
    row_within table.width table.defined.items table.numbers.items c.args.self.now c.args.cell
    c.self.view_is c.requires in
    rw (← c.self.view_is)
    (row_defined table.width table.defined.items table.numbers.items c.deref.result.now c.args.cell
    c.index.result.now within
    c.index.ensures c.if-not-index.false c.deref.ensures.value)
