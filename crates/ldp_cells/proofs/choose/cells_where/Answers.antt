use Rattle.std.proofs.Common.{◌≡◌, ℕ, ◌+◌, ◌*◌, subst, sym, ap, ◌∙◌, arith}
use Rattle.std.proofs.Math.Nat.{mul_comm}
use Rattle.ldp_cells.specs.Tallies.{Tally, IsTally}
use Rattle.ldp_cells.specs.Tests.{test_of}
use Rattle.ldp_cells.specs.Cells.{centre}
use Rattle.ldp_cells.proofs.Centres.{grid_marks}
use Rattle.ldp_cells.proofs.Places.{nothing_found}
use Rattle.ldp_cells.proofs.choose.cells_where.Goals as goal

pub loop-number-init : goal.loop-number-init
loop-number-init c =
    let test = test_of c.args.region.now in
    let grid = c.args.heights.now in
    let none = c.in_ok-tally.ensures in
    let count = ap (λ (t : Tally). t.count + t.missing) none in
    record {
      each = c.in_ok-line.ensures ∙ c.cols.ensures.value;
      few = omega (arith, count);
      tally = subst (IsTally test grid (0 * grid.cols)) (sym none) (nothing_found test grid);
    }

pub take_row-requires-clause-near : goal.take_row-requires-clause-near
take_row-requires-clause-near c = λ column within marked.
    let test = test_of c.args.region.now in
    let grid = c.args.heights.now in
    let number = c.loop-number.number in
    let tests = grid_marks test grid number c.of_grid.result c.mark.new.line.marks
    c.of_grid.ensures.value c.in_ok-mark.ensures column within in
    c.requires.near (centre grid number column)
    (sym tests ∙ rw c.marks.ensures at marked)

pub loop-number-preserved : goal.loop-number-preserved
loop-number-preserved c =
    let test = test_of c.args.region.now in
    let grid = c.args.heights.now in
    let number = c.loop-number.number in
    let tests = grid_marks test grid number c.of_grid.result c.mark.new.line.marks
    c.of_grid.ensures.value c.in_ok-mark.ensures in
    record {
      each = c.in_ok-mark.ensures.each ∙ c.of_grid.ensures.value.cols;
      few = c.in_ok-take_row.ensures.few;
      tally = c.in_ok-take_row.ensures.tally test (rw c.marks.ensures tests)
          c.loop-number.invariant.tally;
    }

pub returns-clause-value : goal.returns-clause-value
returns-clause-value c = λ fits.
    let test = test_of c.args.region.now in
    let grid = c.args.heights.now in
    let end : c.loop-number.number ≡ grid.rows = omega arith in
    let all = ap (λ n. n * grid.cols) end ∙ mul_comm grid.rows grid.cols in
    let P : ℕ → Type 0 = λ place. IsTally test grid place c.loop-number.tally in
    c.finish.ensures.value test grid (subst P all c.loop-number.invariant.tally)
