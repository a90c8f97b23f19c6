-- The laws of the distortion of boxes.
use Rattle.std.specs.Prelude.{◌≡◌, ◌<◌, IsTrue, Bool, ℕ, ℤ, List, length, Option, Some, option_map}
use Rattle.ldp_num.specs.Written.{Ops, number_ops}
use Rattle.ldp_series.specs.declared.list.Lists.{Lists}
use Rattle.ldp_range.specs.Range.{twice, LiesIn}
use Rattle.ldp_range.specs.Related.{Pairwise, Reaches, ValuesFollow}
use Rattle.ldp_cells.specs.declared.cell.Cell.{Cell}
use Rattle.ldp_distortion.specs.Distortion.{distortion_in}
use Rattle.ldp_design.specs.declared.family.Family.{Family}
use Rattle.ldp_design.specs.declared.design.Design.{Design}
use Rattle.ldp_design.specs.declared.design_box.DesignBox.{DesignBox}
use Rattle.ldp_design.specs.Families.{AreGrids}
use Rattle.ldp_design.specs.Boxes.{LiesIn as LiesInFamily, IsIn, IsSingle, first_of}
use Rattle.ldp_problem.specs.Problem.{IsSound}
use Rattle.ldp_bound.specs.Plain.{design_numbers, distortion_at, range_at, plain_problem}

-- the problem over valid families and at least one cell is sound
abbrev pub PlainIsSound : Type 0
PlainIsSound = (families : List Family) (cells : List Cell) (tolerance : Option ℕ)
    → AreGrids families → 0 < length cells → IsSound (plain_problem families cells tolerance)

-- Inclusion: where the range of a box is defined at a cell, so is the distortion of each of its
-- designs, and it lies in the range.
abbrev pub RangesHold : Type 0
RangesHold =
    (families : List Family) (cells : List Cell) (b : DesignBox) (d : Design) (i : ℕ) (t : ℤ × ℤ)
    → AreGrids families → LiesInFamily families b → IsIn d b → range_at families cells b i ≡ Some t
    → Reaches LiesIn (distortion_at number_ops families cells d.family (design_numbers d) i) t

-- Sharpness: at a box of one design the range is that of its distortion alone.
abbrev pub SinglesAreSharp : Type 0
SinglesAreSharp = (families : List Family) (cells : List Cell) (b : DesignBox) (i : ℕ) → IsSingle b
    → range_at families cells b i
    ≡ option_map twice
    (distortion_at number_ops families cells b.family (design_numbers (first_of b)) i)

-- Of any two carriers: where the values of all lists over f follow those over g, so does the
-- distortion.
abbrev pub DistortionFollows : Type 0 → Type 0 → Type 0
DistortionFollows A B = (R : A → B → Bool) (f : Ops A) (g : Ops B)
    → ValuesFollow (λ a b. IsTrue (R a b)) f g
    → ((v : ℤ) → IsTrue (R (f.constant v) (g.constant v)))
    → (lists : Lists) (of_cell : Option (List ℤ)) (left : List A) (right : List B) (t : B)
    → Pairwise (λ a b. IsTrue (R a b)) left right → distortion_in g lists right of_cell ≡ Some t
    → Reaches (λ a b. IsTrue (R a b)) (distortion_in f lists left of_cell) t
