-- What a bounder keeps of cells: for each kind that some family has, the results of its cell list.
use Rattle.std.specs.Prelude.{◌≡◌, ◌≤◌, ℕ, Bool, true, false, ℤ, List, length, take, slice_get}
use Rattle.std.specs.Prelude.{Option, None, Some, option_map, option_and_then, unsigned_abs}
use Rattle.std.specs.Prelude.{if◌then◌else◌}
use Rattle.std.specs.List.{list_any}
use Rattle.ldp_num.specs.Steps.{most_steps, most_inputs}
use Rattle.ldp_num.specs.declared.fix.Fix.{Fix}
use Rattle.ldp_num.specs.Written.{Ops, number_ops, range_ops}
use Rattle.ldp_cells.specs.declared.cell.Cell.{Cell}
use Rattle.ldp_distortion.specs.Distortion.{distortion_in}
use Rattle.ldp_distortion.specs.Prepared.{PreparedCells, HasRoom, prepared, joined_at}
use Rattle.ldp_distortion.specs.Inputs.{numbers}
use Rattle.ldp_design.specs.declared.family.Family.{Family}
use Rattle.ldp_design.specs.declared.family.Kind.{Kind}
use Rattle.ldp_design.specs.declared.family.Kind.TheVariants.{Tm, Lambert, Hotine, Lambert2}
use Rattle.ldp_design.specs.declared.design.Design.{Design}
use Rattle.ldp_design.specs.declared.design_box.DesignBox.{DesignBox}
use Rattle.ldp_design.specs.Families.{family_of}
use Rattle.ldp_problem.specs.Problem.{Problem}
use Rattle.ldp_bound.specs.Kinds.{lists_of, is_south}
use Rattle.ldp_bound.specs.Plain.{design_numbers, box_pairs, least_size}
use Rattle.ldp_bound.specs.declared.kinds.PreparedKinds.{PreparedKinds}

-- the same lists serve both: of one kind, and for the oblique Mercator projection also of one
-- hemisphere (true is south)
abbrev pub is_same : Kind → Bool → Kind → Bool → Bool
is_same Tm s Tm t = true
is_same Lambert s Lambert t = true
is_same Lambert2 s Lambert2 t = true
is_same Hotine true Hotine true = true
is_same Hotine false Hotine false = true
is_same _ _ _ _ = false

-- a family has the lists of this kind and hemisphere
abbrev pub has_lists : Kind → Bool → Family → Bool
has_lists kind south f = is_same kind south f.kind (is_south f)

-- the cells prepared for these lists, where some family has them
abbrev pub set_of : List Family → List Cell → Kind → Bool → Option PreparedCells
set_of families cells kind south =
    if list_any (has_lists kind south) families
    then Some (prepared (lists_of kind south) cells)
    else None

-- the cells prepared for the lists of each kind and hemisphere, if some family has them
abbrev pub kinds_of : List Family → List Cell → PreparedKinds
kinds_of families cells = record {
  tm = set_of families cells Tm false;
  lambert = set_of families cells Lambert false;
  lambert2 = set_of families cells Lambert2 false;
  hotine_north = set_of families cells Hotine false;
  hotine_south = set_of families cells Hotine true;
}

-- the cells prepared for a kind and hemisphere; only the oblique Mercator projection has two
abbrev pub set_at : PreparedKinds → Kind → Bool → Option PreparedCells
set_at kinds Tm south = kinds.tm
set_at kinds Lambert south = kinds.lambert
set_at kinds Lambert2 south = kinds.lambert2
set_at kinds Hotine false = kinds.hotine_north
set_at kinds Hotine true = kinds.hotine_south

-- those for the lists of a family
abbrev pub family_set : PreparedKinds → Family → Option PreparedCells
family_set kinds f = set_at kinds f.kind (is_south f)

-- in any carrier: the same distortion as over the cells, from what is kept of them
unfoldable pub kept_distortion : {A : Type 0} → Ops A → List Family → PreparedKinds → ℕ
    → (Family → List A) → ℕ → Option A
kept_distortion ops families kinds number inputs i =
    option_and_then
    (λ f. option_and_then
    (λ p. option_and_then (distortion_in ops p.lists (inputs f)) (slice_get p.results i))
    (family_set kinds f))
    (family_of families number)

-- the absolute value of the distortion of a design at a cell, in units of 10^-15; None if it is
-- undefined
abbrev pub kept_delta : List Family → PreparedKinds → Design → ℕ → Option ℕ
kept_delta families kinds d i =
    option_map unsigned_abs
    (kept_distortion number_ops families kinds d.family (design_numbers d) i)

-- the least absolute value in the range of a box at a cell; 0 if the range is undefined
abbrev pub kept_lower : List Family → PreparedKinds → DesignBox → ℕ → ℕ
kept_lower families kinds b i =
    least_size (kept_distortion range_ops families kinds b.family (box_pairs b) i)

-- the problem over so many cells, from what is kept of them
abbrev pub kept_problem : List Family → PreparedKinds → ℕ → Option ℕ → Problem
kept_problem families kinds count tolerance = record {
  families = families;
  cells = count;
  tolerance = tolerance;
  lower = kept_lower families kinds;
  delta = kept_delta families kinds;
}

-- each set is over so many cells
pub record HasCells (count : ℕ) (kinds : PreparedKinds) : Type 0 where
  pub full : (kind : Kind) (south : Bool) (p : PreparedCells)
      → set_at kinds kind south ≡ Some p → length p.results ≡ count

-- cells prepared for lists that a bench of so many places and so many inputs have room for
pub record IsReady (count : ℕ) (p : PreparedCells) : Type 0 where
  pub full : length p.results ≡ count
  pub room : HasRoom p.lists most_steps
  pub inputs : p.lists.joint.inputs ≤ most_inputs

-- the absolute value of the distortion at a cell, from the results of the design list
abbrev pub size_from : PreparedCells → List ℤ → ℕ → Option ℕ
size_from p design cell = option_map unsigned_abs (joined_at number_ops p design cell)

-- the least absolute value of the range at a cell, from the results of the design list of a box; 0
-- if it is undefined
abbrev pub low_from : PreparedCells → List (ℤ × ℤ) → ℕ → ℕ
low_from p design cell = least_size (joined_at range_ops p design cell)

-- these results of the design list of a design give its absolute distortion at every cell
pub record TellsDesign (families : List Family) (kinds : PreparedKinds) (d : Design)
    (p : PreparedCells) (inputs : List Fix) : Type 0 where
  pub sizes : kept_delta families kinds d
      ≡ size_from p (numbers (take (length p.lists.design.outs) inputs))

-- the same for a box: these results give the least absolute value of the range at every cell
pub record TellsBox (families : List Family) (kinds : PreparedKinds) (b : DesignBox)
    (p : PreparedCells) (inputs : List (ℤ × ℤ)) : Type 0 where
  pub lows : kept_lower families kinds b
      ≡ low_from p (take (length p.lists.design.outs) inputs)
