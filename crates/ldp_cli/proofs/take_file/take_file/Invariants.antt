use Rattle.std.proofs.Common.{◌≡◌, ◌≤◌, ◌+◌, ◌-◌}
use Rattle.ldp_io.specs.Count.{Later}
use Rattle.ldp_cli.specs.Taken.{AreTaken}
use Rattle.ldp_cli.proofs.take_file.take_file.Given as goal

abbrev pub invariant-loop-taken : goal.invariant-loop-taken
invariant-loop-taken g l = record {
  taken : AreTaken (g.P.Pieces.holds l.into) l.taken l.fn.name
      (g.H.Shelf.files l.fn.shelf) (g.H.Shelf.rest l.shelf);
  short : l.taken ≤ l.limit + 1;
  begun : g.H.Shelf.begun l.shelf ≡ l.fn.place;
  files : g.H.Shelf.files l.shelf ≡ g.H.Shelf.files l.fn.shelf;
  serves : g.H.Shelf.serves l.shelf ≡ g.H.Shelf.serves l.fn.shelf;
  later : Later (g.H.Shelf.faults l.fn.shelf) (g.H.Shelf.faults l.shelf);
}

abbrev pub decreases-loop-taken : goal.decreases-loop-taken
decreases-loop-taken g l = (l.limit + 1) - l.taken
