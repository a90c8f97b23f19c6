-- A shelf of real files (own choice of this project). It tells nothing of what they hold.
use Rattle.std.specs.Prelude.{ℕ, List}
use Rattle.ldp_io.specs.Count.{raised_at}
use Rattle.ldp_io.specs.declared.shelf.Opened.{Opened}
use Rattle.ldp_io.specs.declared.shelf.Next.{Next}
use Rattle.ldp_io.specs.declared.shelf.Opened.TheVariants as opened
use Rattle.ldp_io.specs.declared.shelf.Next.TheVariants as nexts

-- The place begun last, and how often a call for each place has failed.
pub record ShelfCounts : Type 0 where
  pub begun : ℕ
  pub faults : List ℕ

-- The counts after `begin` gave this answer.
abbrev pub counts_after_begin : Opened → ℕ → ShelfCounts → ShelfCounts
counts_after_begin opened.Ready place shelf = record shelf { begun = place }
counts_after_begin opened.Failed place shelf =
    record { begun = place; faults = raised_at place shelf.faults }
counts_after_begin opened.Memory place shelf = record shelf { begun = place }

-- The counts after `next` gave this answer.
abbrev pub counts_after_next : Next → ShelfCounts → ShelfCounts
counts_after_next (nexts.Took n) shelf = shelf
counts_after_next nexts.End shelf = shelf
counts_after_next nexts.Failed shelf = record shelf { faults = raised_at shelf.begun shelf.faults }
