-- What a reader keeps of the header and of the heights at each stage.
use Rattle.std.specs.Prelude.{◌≡◌, ℕ, ◌*◌, ◌≤◌, ℤ, List, [], length, All, Option}
use Rattle.ldp_heights.specs.Grid.{IsHeight}
use Rattle.ldp_heights.specs.Ranges.{AreInRange, IsLayout}
use Rattle.ldp_heights.specs.Seen.{header_seen, layout_seen}
use Rattle.ldp_heights.specs.declared.stage.Stage.{Stage as HeldStage}
use Rattle.ldp_heights.specs.declared.stage.Stage.TheVariants.{Word, Value, Height}

-- the list of the heights has so much room: from the header's end on, it is enough for all places
abbrev pub Keeps : HeldStage → List (Option ℤ) → ℕ → Type 0
Keeps (Word met) heights room = AreInRange (header_seen met) × (heights ≡ [])
Keeps (Value met word) heights room = AreInRange (header_seen met) × (heights ≡ [])
Keeps (Height layout) heights room =
    IsLayout (layout_seen layout)
    × (length heights ≤ layout.cols * layout.rows)
    × (layout.cols * layout.rows ≤ room)
    × All IsHeight heights
