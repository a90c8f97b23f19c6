use Rattle.std.proofs.Common.{ℕ, Result, Err, ap, ◌∙◌, arith}
use Rattle.ldp_cells.specs.Cells.{CellList}
use Rattle.ldp_cells.specs.Tallies.{Tally}
use Rattle.ldp_cells.specs.declared.fault.CellsFault.{CellsFault}
use Rattle.ldp_cells.specs.declared.fault.CellsFault.TheVariants.{TooManyCells}
use Rattle.ldp_cells.proofs.Places.{too_many, all_found}
use Rattle.ldp_cells.proofs.tally.Tally.finish.Goals as goal

pub returns-then-self-gt-MOST_CELLS-clause-value : goal.returns-then-self-gt-MOST_CELLS-clause-value
returns-then-self-gt-MOST_CELLS-clause-value c = λ test grid all.
    let told : Tally → Result CellList CellsFault = λ t. Err (TooManyCells t.count) in
    let count_of : Tally → ℕ = λ t. t.count in
    let count = ap count_of c.self.view_is in
    ap told c.self.view_is ∙ too_many test grid c.args.self all (omega arith)

pub returns-clause-value : goal.returns-clause-value
returns-clause-value c = λ test grid all.
    let count_of : Tally → ℕ = λ t. t.count in
    let count = ap count_of c.self.view_is in
    all_found test grid c.args.self c.new.result all (omega arith)
    (ap (λ (l : CellList). l.cells) c.new.ensures ∙ ap (λ (t : Tally). t.cells) c.self.view_is)
    (ap (λ (l : CellList). l.missing) c.new.ensures ∙ ap (λ (t : Tally). t.missing) c.self.view_is)
