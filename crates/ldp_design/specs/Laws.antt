-- The laws of designs, boxes and their inputs, and what they say.
use Rattle.std.specs.Prelude.{◌≡◌, ◌<◌, ◌≤◌, ◌+◌, ℕ, ◌≤ℤ◌, ◌⊎◌, ◌↔◌, true, List, All, Any}
use Rattle.std.specs.Prelude.{None, Some, IsSomeAnd}
use Rattle.ldp_num.specs.Number.{IsNumber}
use Rattle.ldp_design.specs.declared.axis.AxisName.{AxisName}
use Rattle.ldp_design.specs.declared.family.Family.{Family}
use Rattle.ldp_design.specs.declared.design.Design.{Design}
use Rattle.ldp_design.specs.declared.design_box.DesignBox.{DesignBox}
use Rattle.ldp_design.specs.declared.inputs.Inputs4.{Inputs4}
use Rattle.ldp_design.specs.Families.{AreGrids, family_of, value_at}
use Rattle.ldp_design.specs.Limits.{most_families}
use Rattle.ldp_design.specs.Designs.{IsAdmitted, IsValueOn, axis_of, is_admitted}
use Rattle.ldp_design.specs.Boxes.{LiesIn, IsIn, IsSingle, is_single, whole_of, first_of, last_of}
use Rattle.ldp_design.specs.Boxes.{size, span_width}
use Rattle.ldp_design.specs.Splits.{IsCut, parts_at, cut_for}
use Rattle.ldp_design.specs.Inputs.{box_inputs, design_inputs}

-- a design lies in one of some boxes
abbrev pub IsInSome : Design → List DesignBox → Type 0
IsInSome d boxes = Any (IsIn d) boxes

-- all boxes lie in their families
abbrev pub AllLieIn : List Family → List DesignBox → Type 0
AllLieIn families boxes = All (LiesIn families) boxes

-- the whole of a family: its designs are the admissible ones with its number
pub record IsWhole (families : List Family) (number : ℕ) (b : DesignBox) : Type 0 where
  pub lies : LiesIn families b
  pub family : b.family ≡ number
  pub holds : (d : Design) → IsAdmitted families d → d.family ≡ number → IsIn d b

-- the whole of a family has all its designs
abbrev pub WholesHold : Type 0
WholesHold = (families : List Family) (number : ℕ) (b : DesignBox)
    → AreGrids families → whole_of families number ≡ Some b → IsWhole families number b

-- a design of a box is admissible
abbrev pub BoxesAreAdmitted : Type 0
BoxesAreAdmitted =
    (families : List Family) (b : DesignBox) (d : Design) → LiesIn families b → IsIn d b
    → IsAdmitted families d

-- a design is admissible exactly where the test admits it
abbrev pub AdmittedAreTested : Type 0
AdmittedAreTested =
    (families : List Family) (d : Design) → (is_admitted families d ≡ true) ↔ IsAdmitted families d

-- the first design of a box lies in it
abbrev pub FirstsAreIn : Type 0
FirstsAreIn =
    (families : List Family) (b : DesignBox) → LiesIn families b → IsIn (first_of b) b

-- and is admissible
abbrev pub FirstsAreAdmitted : Type 0
FirstsAreAdmitted =
    (families : List Family) (b : DesignBox) → LiesIn families b → IsAdmitted families (first_of b)

-- a single has one design
abbrev pub SinglesHaveOne : Type 0
SinglesHaveOne =
    (b : DesignBox) (d : Design) → IsSingle b → IsIn d b → (d ≡ first_of b) × (d ≡ last_of b)

-- a box is of one design exactly where the test finds it
abbrev pub SinglesAreTested : Type 0
SinglesAreTested = (b : DesignBox) → (is_single b ≡ true) ↔ IsSingle b

-- how far a box is from a single: the sum of the widths of its spans
abbrev pub width : DesignBox → ℕ
width b = span_width b.lat + span_width b.lon + span_width b.azimuth + span_width b.scale

-- what is true of two parts of a box: they lie in its family, they are smaller, and its designs are
-- those of the parts
pub record AreParts (families : List Family) (b low high : DesignBox) : Type 0 where
  pub low_lies : LiesIn families low
  pub high_lies : LiesIn families high
  pub low_family : low.family ≡ b.family
  pub high_family : high.family ≡ b.family
  pub low_narrower : width low < width b
  pub high_narrower : width high < width b
  pub low_smaller : size low < size b
  pub high_smaller : size high < size b
  pub sizes : size low + size high ≡ size b
  pub covered : (d : Design) → IsIn d b → IsIn d low ⊎ IsIn d high
  pub low_in : (d : Design) → IsIn d low → IsIn d b
  pub high_in : (d : Design) → IsIn d high → IsIn d b

-- where an axis is cut within its span, the box is cut in two parts
abbrev pub CutsPart : Type 0
CutsPart = (families : List Family) (b : DesignBox) (axis : AxisName) (at : ℕ)
    → LiesIn families b → IsCut axis at b
    → AreParts families b (parts_at axis at b).0 (parts_at axis at b).1

-- a box that is split is cut within the span of the axis
abbrev pub SplitsCut : Type 0
SplitsCut = (families : List Family) (b : DesignBox) (axis : AxisName) (at : ℕ)
    → AreGrids families → LiesIn families b → cut_for families b ≡ Some (axis, at) → IsCut axis at b

-- a box has no split exactly where it is a single
abbrev pub SinglesEnd : Type 0
SinglesEnd =
    (families : List Family) (b : DesignBox) → LiesIn families b
    → (cut_for families b ≡ None) ↔ IsSingle b

-- the inputs are numbers
pub record AreNumbers (inputs : Inputs4) : Type 0 where
  pub lat : IsNumber inputs.lat
  pub lon : IsNumber inputs.lon
  pub azimuth : IsNumber inputs.azimuth
  pub scale : IsNumber inputs.scale

-- each input is at most the other
pub record AreOrdered (low high : Inputs4) : Type 0 where
  pub lat : low.lat ≤ℤ high.lat
  pub lon : low.lon ≤ℤ high.lon
  pub azimuth : low.azimuth ≤ℤ high.azimuth
  pub scale : low.scale ≤ℤ high.scale

-- each input lies between two
pub record LieBetween (low high : Inputs4) (inputs : Inputs4) : Type 0 where
  pub lat : (low.lat ≤ℤ inputs.lat) × (inputs.lat ≤ℤ high.lat)
  pub lon : (low.lon ≤ℤ inputs.lon) × (inputs.lon ≤ℤ high.lon)
  pub azimuth : (low.azimuth ≤ℤ inputs.azimuth) × (inputs.azimuth ≤ℤ high.azimuth)
  pub scale : (low.scale ≤ℤ inputs.scale) × (inputs.scale ≤ℤ high.scale)

-- the inputs of a box are numbers, and those of each of its designs lie between them
pub record HaveBetween (families : List Family) (b : DesignBox) (low high : Inputs4) : Type 0 where
  pub low_numbers : AreNumbers low
  pub high_numbers : AreNumbers high
  pub ordered : AreOrdered low high
  pub designs : (d : Design) → IsIn d b → IsSomeAnd (design_inputs families d) (LieBetween low high)

-- the inputs of a box are numbers, and those of each of its designs lie between them
abbrev pub InputsLieBetween : Type 0
InputsLieBetween = (families : List Family) (b : DesignBox) (low high : Inputs4)
    → AreGrids families → LiesIn families b → box_inputs families b ≡ Some (low, high)
    → HaveBetween families b low high

-- What is so of a family that has a number: at most 16 have one, no axis has more than 100,000
-- values, and each value is in the range of the axis.
pub record IsInRange (number : ℕ) (f : Family) : Type 0 where
  pub some : 1 ≤ number
  pub few : number ≤ most_families
  pub counts : (axis : AxisName) → (axis_of axis f).count ≤ 100_000
  pub values : (axis : AxisName) (i : ℕ) → i < (axis_of axis f).count
      → IsValueOn axis (value_at (axis_of axis f) i)

-- in valid design grids, each family that has a number keeps these ranges
abbrev pub FamiliesAreInRange : Type 0
FamiliesAreInRange = (families : List Family) (number : ℕ) (f : Family)
    → AreGrids families → family_of families number ≡ Some f → IsInRange number f
