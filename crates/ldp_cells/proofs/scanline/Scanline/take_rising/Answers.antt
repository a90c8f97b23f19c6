use Rattle.std.proofs.Common.{◌≡◌, ◌*◌, ◌-ℤ◌, ◌++◌, ◌∷◌, [], List, ℕ, Bool, unsigned_abs, refl}
use Rattle.std.proofs.Common.{sym, ap, ◌∙◌}
use Rattle.ldp_zone.specs.Inside.{spans}
use Rattle.ldp_zone.specs.declared.point.Point.{Point}
use Rattle.ldp_cells.specs.Rows.{Filling}
use Rattle.ldp_cells.proofs.Columns.{apart, only_west, some_step}
use Rattle.ldp_cells.proofs.Filling.{edge_crossing, edge_not_crossing, edge_taken}
use Rattle.ldp_cells.proofs.scanline.Scanline.take_rising.Goals as goal
use Rattle.ldp_cells.proofs.scanline.Scanline.take_rising.Goals.{then-spans+in_ok-push, else-spans}

pub mark_held-requires-clause-only : goal.mark_held-requires-clause-only
mark_held-requires-clause-only c =
    let row = c.args.row.now in
    let edge = c.args.edge.now in
    let rise = unsigned_abs (edge.start.y -ℤ edge.end.y) in
    only_west row edge (row.spacing * rise) c.columns_west-west.result
    (some_step row edge c.requires.row.some c.requires.rise)
    (apart row edge rise c.requires.rise refl)
    c.columns_west-west.ensures.value

pub returns : goal.returns
returns c =
    let row = c.args.row.now in
    let edge = c.args.edge.now in
    let old = c.args.self.now in
    let mid = c.if-spans.self in
    let new = c.mark_held.new.self in
    let west = c.columns_west-west.result in
    let marks_of : Filling → List Bool = λ f. f.marks in
    let crossings_of : Filling → List ℕ = λ f. f.crossings in
    let held = c.mark_held.ensures in
    let spanned = ap (λ (at : Point). spans at edge) (sym c.centre.ensures.value)
    ∙ sym c.spans.ensures in
    elim c.if-spans.branch [
      | then-spans+in_ok-push w ↦
          let kept = ap marks_of (w.self-is) ∙ ap marks_of c.self.view_is in
          let items : mid.crossings ≡ old.crossings ++ west ∷ [] =
          ap crossings_of w.self-is ∙ w.in_ok-push.ensures.items
          ∙ ap (λ (f : Filling). f.crossings ++ west ∷ []) c.self.view_is in
          edge_taken row edge old mid new kept
          (λ column within. rw items (edge_crossing row edge west old.crossings
          c.columns_west-west.ensures.value (spanned ∙ w.if-spans.true) column within))
          held.each held.crossings held.marks
      | else-spans w ↦
          let kept = ap marks_of (w.self-is) in
          edge_taken row edge old mid new kept
          (λ column within. rw (ap crossings_of w.self-is)
          (edge_not_crossing row edge old.crossings (spanned ∙ w.if-spans.false) column within))
          held.each held.crossings held.marks
    ]
