use Rattle.std.proofs.Common.{◌≡◌, ◌+◌, ◌*◌, ◌++◌, [], ◌∷◌, length, map, arith, ap, subst, sym, ◌∙◌}
use Rattle.std.specs.Prelude.{if◌then◌else◌, Some, None}
use Rattle.std.proofs.lemmas.List.{length-append, length-map, length-take, length_push}
use Rattle.std.proofs.lemmas.List.Elements.{All-append}
use Rattle.ldp_num.specs.Number.{IsNumber}
use Rattle.ldp_num.specs.declared.fix.Fix.{Fix}
use Rattle.ldp_num.specs.StepList.{StepList, value, value_in}
use Rattle.ldp_num.specs.Written.{written, plain_out}
use Rattle.ldp_distortion.specs.Inputs.{numbers}
use Rattle.ldp_distortion.specs.Distortion.{cell_results}
use Rattle.ldp_distortion.proofs.Rows.{rows_more, full_rows}
use Rattle.ldp_distortion.proofs.Runs.{numbers_all, run_numbers}
use Rattle.ldp_distortion.proofs.table.Table.over.Goals as goal

pub loop-cell-preserved : goal.loop-cell-preserved
loop-cell-preserved c =
    let so_far = c.loop-cell.invariant in
    let row = numbers c.run_into.new.results in
    let in_row : length row ≡ length c.run_into.new.results =
    length-map c.run_into.new.results (λ (one : Fix). one.n) in
    let outs : length c.outs-width.result.now ≡ length c.args.list.now.outs =
    ap length c.outs-width.ensures.outs in
    let width : length row ≡ length c.outs-width.result.now =
    omega (arith, length-take {A = Fix}) in
    let is_row : cell_results c.args.list.now c.get.result
    ≡ (if c.run_into.result then Some row else None) =
    ap (value c.args.list.now) (sym c.cell_inputs-inputs.ensures)
    ∙ run_numbers c.args.list.now c.cell_inputs-inputs.result c.run_into.result
    c.run_into.new.results
    (subst (λ (list : StepList).
    value_in (written 0) list (map (λ one. plain_out one.n) c.cell_inputs-inputs.result)
    ≡ (if c.run_into.result
    then Some (map (λ one. plain_out one.n) c.run_into.new.results) else None))
    so_far.list c.run_into.ensures.value) in
    let flags : c.push.new.self.items ≡ c.loop-cell.defined.items ++ c.run_into.result ∷ [] =
    c.in_ok-push.ensures.items in
    let flagged : length (c.loop-cell.defined.items ++ c.run_into.result ∷ [])
    ≡ length c.loop-cell.defined.items + 1 =
    length_push c.loop-cell.defined.items c.run_into.result in
    let all : c.push_numbers.new.list.items ≡ c.loop-cell.numbers.items ++ row =
    c.in_ok-push_numbers.ensures in
    let filled : length (c.loop-cell.numbers.items ++ row) ≡ length c.loop-cell.numbers.items
    + length row =
    length-append c.loop-cell.numbers.items row in
    record {
      list = c.run_into.ensures.list ∙ so_far.list;
      count = ap length flags ∙ flagged ∙ ap (λ n. n + 1) so_far.count;
      full = ap length all ∙ omega arith;
      in_range = rw all
          (All-append IsNumber c.loop-cell.numbers.items row so_far.in_range
          (numbers_all c.run_into.new.results));
      rows = rw (flags, all)
          (rows_more (cell_results c.args.list.now) c.args.cells.now.cells
          (length c.outs-width.result.now) c.loop-cell.defined.items
          c.loop-cell.numbers.items c.loop-cell.cell c.get.result c.run_into.result row so_far.count
          so_far.full width c.get.ensures.value
          is_row so_far.rows);
    }

pub returns-clause-full : goal.returns-clause-full
returns-clause-full c =
    let so_far = c.loop-cell.invariant in
    let outs : length c.outs-width.result.now ≡ length c.args.list.now.outs =
    ap length c.outs-width.ensures.outs in
    let filled : length c.loop-cell.numbers.items ≡ length c.outs-width.result.now * length
    c.loop-cell.defined.items =
    so_far.full ∙ ap (λ n. length c.outs-width.result.now * n) (sym so_far.count) in
    rw (← outs) (full_rows (length c.outs-width.result.now) c.loop-cell.defined.items
    c.loop-cell.numbers.items filled so_far.in_range)
