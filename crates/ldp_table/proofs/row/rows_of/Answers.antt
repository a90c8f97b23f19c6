use Rattle.std.proofs.Common.{◌≡◌, ◌++◌, ◌∷◌, [], ◌≤◌, length, length-append, take, Some, None}
use Rattle.std.proofs.Common.{All, List, Vec, Global, ℤ, subst, sym, ap, ◌∙◌, arith}
use Rattle.std.proofs.lemmas.List.Elements.{All-append}
use Rattle.std.proofs.lemmas.List.{take_all, append-nil}
use Rattle.ldp_distortion.specs.Prepared.{distortions_of}
use Rattle.ldp_table.specs.declared.row.Row.{Row}
use Rattle.ldp_table.specs.Rows.{rows_of, IsRow}
use Rattle.ldp_table.proofs.Bounds.{small_number}
use Rattle.ldp_table.proofs.Measured.{made_row, one_row, cell_at, rows_more, distortions_are}
use Rattle.ldp_table.proofs.Measured.{distortion_count, result_count}
use Rattle.ldp_table.proofs.row.rows_of.Goals as goal
use Rattle.ldp_table.proofs.row.rows_of.Goals.{in-Some+in_ok-push, in_default}

pub loop-i-preserved : goal.loop-i-preserved
loop-i-preserved c =
    let cells = c.args.cells.now.cells in
    let found = distortions_of c.args.prepared.now c.args.at in
    elim c.match-delta.branch [
      | in-Some+in_ok-push w ↦
          let is = small_number w.in-Some.distortion w.in-Some.ensures.number in
          let row : Row = record { cell = w.get.result; distortion = w.in-Some.distortion } in
          let pushed : c.match-delta.rows.items ≡ c.loop-i.rows.items ++ row ∷ [] =
          ap (λ (v : Vec Row Global). v.items) w.rows-is
          ∙ (w.in_ok-push.ensures.items
          ∙ ap (λ (z : ℤ). c.loop-i.rows.items ++ made_row w.get.result z ∷ []) is.held) in
          record {
            rows = pushed
                ∙ (ap (λ rows. rows ++ row ∷ []) c.loop-i.invariant.rows
                ∙ sym (rows_more cells found c.loop-i.i w.get.result (Some w.in-Some.distortion)
                w.get.ensures.value w.in-Some.ensures.distortion));
            each = subst (λ (rows : List Row). All IsRow rows) (sym pushed)
                (All-append IsRow c.loop-i.rows.items (row ∷ []) c.loop-i.invariant.each
                (one_row row record {
                  cell = w.get.ensures.in_range;
                  distortion = w.in-Some.ensures.number;
                }));
            few = omega (
              arith,
              ap (λ (rows : List Row). length rows) pushed,
              length-append c.loop-i.rows.items (row ∷ []),
              c.loop-i.invariant.few,
            );
            room = c.delta.ensures.room ∙ c.loop-i.invariant.room;
          }
      | in_default w ↦
          let same : c.match-delta.rows.items ≡ c.loop-i.rows.items =
          ap (λ (v : Vec Row Global). v.items) w.rows-is in
          let cell = cell_at cells c.loop-i.i
          (omega (arith, c.loop-i-test.true, c.len-count.ensures.value)) in
          record {
            rows = same
                ∙ (c.loop-i.invariant.rows
                ∙ (sym (append-nil (rows_of (take c.loop-i.i cells) (take c.loop-i.i found)))
                ∙ sym (rows_more cells found c.loop-i.i cell.0 None cell.1
                w.in_default.ensures.distortion)));
            each = subst (λ (rows : List Row). All IsRow rows) (sym same) c.loop-i.invariant.each;
            few = omega (arith, ap (λ (rows : List Row). length rows) same, c.loop-i.invariant.few);
            room = c.delta.ensures.room ∙ c.loop-i.invariant.room;
          }
    ]

pub returns-clause-rows : goal.returns-clause-rows
returns-clause-rows c =
    let cells = c.args.cells.now.cells in
    let count : length cells ≤ c.loop-i.i =
    omega (arith, c.loop-i-test.false, c.len-count.ensures.value) in
    let results = result_count c.args.prepared.now cells c.requires.over in
    let found : length (distortions_of c.args.prepared.now c.args.at) ≤ c.loop-i.i =
    omega (arith, distortion_count c.args.prepared.now c.args.at, results, count) in
    c.loop-i.invariant.rows
    ∙ (ap (λ x. rows_of x (take c.loop-i.i (distortions_of c.args.prepared.now c.args.at)))
    (take_all c.loop-i.i cells count)
    ∙ (ap (rows_of cells) (take_all c.loop-i.i (distortions_of c.args.prepared.now c.args.at) found)
    ∙ ap (rows_of cells) (distortions_are c.args.prepared.now c.args.at cells c.requires.over)))
