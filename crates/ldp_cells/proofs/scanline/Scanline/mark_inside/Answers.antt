use Rattle.std.proofs.Common.{◌≡◌, length, drop, subst, sym, ap}
use Rattle.std.proofs.Common.{◌∙◌}
use Rattle.std.proofs.lemmas.List.{take_at}
use Rattle.std.proofs.lemmas.List.Sorted.{IsNonDecreasingBy-from_sort}
use Rattle.ldp_cells.specs.Rows.{Filling, HoldsEdges}
use Rattle.ldp_cells.proofs.Filling.{filled}
use Rattle.ldp_cells.proofs.scanline.Scanline.mark_inside.Goals as goal

pub sweep-requires : goal.sweep-requires
sweep-requires c =
    let sorted = IsNonDecreasingBy-from_sort (λ x. x) c.sort_unstable.new.self.items
    c.sort_unstable.ensures.sorted in
    λ i j d below within. rw c.deref.ensures.value
    (sorted i j d below (rw (← c.deref.ensures.value) within))

pub returns : goal.returns
returns c =
    let row = c.args.row.now in
    let edges = c.args.edges.now in
    let inside = c.self.inside in
    let held : Filling = record {
      crossings = inside.crossings.items;
      marks = inside.marks.items;
    } in
    let holds = subst (HoldsEdges row edges) (sym c.self.view_is) c.in_ok-take_edges.ensures in
    let new = c.sweep.new.marks in
    let each : length new ≡ length inside.marks.items =
    c.sweep.auto.marks ∙ ap length c.deref_mut.ensures.value in
    let written = take_at new (drop (length new) inside.marks.items) inside.marks.len
    (c.sweep.auto.marks ∙ c.deref_mut.ensures.len) in
    record {
      marks = rw written
          (filled row edges held c.deref.result.now new holds
          (rw c.deref.ensures.value c.sort_unstable.ensures.permutation) each
          (rw c.deref_mut.ensures.value at c.sweep.ensures));
    }
