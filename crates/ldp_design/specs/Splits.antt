-- How a box is cut in two. (Own choice of this project.)
use Rattle.std.specs.Prelude.{ℕ, ◌+◌, ◌/◌, ◌<◌, ◌≤◌, List, Option, None, Some, option_map}
use Rattle.std.specs.Prelude.{option_and_then, if◌then◌else◌}
use Rattle.ldp_design.specs.declared.axis.AxisName.{AxisName}
use Rattle.ldp_design.specs.declared.family.Family.{Family}
use Rattle.ldp_design.specs.declared.design_box.DesignBox.{DesignBox}
use Rattle.ldp_design.specs.Families.{family_of}
use Rattle.ldp_design.specs.Boxes.{span_of, with_span, is_single}
use Rattle.ldp_design.specs.Measures.{widest}

-- the low part of a box, whose last index on the axis is the cut, and the high part, which begins
-- one above it
abbrev pub parts_at : AxisName → ℕ → DesignBox → DesignBox × DesignBox
parts_at axis at b = (
  with_span axis (record { lo = (span_of axis b).lo; hi = at }) b,
  with_span axis (record { lo = at + 1; hi = (span_of axis b).hi }) b,
)

-- the index in the middle of a span, rounded down
abbrev pub middle : AxisName → DesignBox → ℕ
middle axis b = ((span_of axis b).lo + (span_of axis b).hi) / 2

-- where a box of a family is cut: its widest axis, in the middle; a single is not cut
unfoldable pub family_cut : Family → DesignBox → Option (AxisName × ℕ)
family_cut f b = if is_single b then None else Some (widest f b, middle (widest f b) b)

-- where a box is cut
abbrev pub cut_for : List Family → DesignBox → Option (AxisName × ℕ)
cut_for families b = option_and_then (λ f. family_cut f b) (family_of families b.family)

-- the two parts of a box
abbrev pub split_of : List Family → DesignBox → Option (DesignBox × DesignBox)
split_of families b = option_map (λ c. parts_at c.0 c.1 b) (cut_for families b)

-- both parts of an axis cut there have an index
pub record IsCut (axis : AxisName) (at : ℕ) (b : DesignBox) : Type 0 where
  pub low : (span_of axis b).lo ≤ at
  pub high : at < (span_of axis b).hi
