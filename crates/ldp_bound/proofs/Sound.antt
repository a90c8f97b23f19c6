-- The laws of the least distortion of a box, for the lists of any kind.
use Rattle.std.proofs.Common.{◌≡◌, ℕ, ◌<◌, ◌≤◌, ℤ, pos, ◌≤ℤ◌, List, length, arith, refl, sym, ap}
use Rattle.std.proofs.Common.{◌∙◌, subst}
use Rattle.std.specs.Int.Signed.{≤ℤ_refl}
use Rattle.std.proofs.lemmas.Int.{ints}
use Rattle.std.proofs.lemmas.Option.{option_and_then_some, same_Some}
use Rattle.std.specs.Prelude.{Option, None, Some, IsSomeAnd, option_map, option_and_then, slice_get}
use Rattle.std.specs.Prelude.{unsigned_abs, unwrap_or}
use Rattle.ldp_num.specs.Written.{number_ops, range_ops}
use Rattle.ldp_range.specs.Range.{twice, LiesIn, magnitude, pair_low_abs}
use Rattle.ldp_range.specs.Related.{Pairwise, Reaches}
use Rattle.ldp_range.proofs.Inclusion.{inclusion}
use Rattle.ldp_range.proofs.Ends.{absolute-bounds, least-natural, absolute-of_one}
use Rattle.ldp_cells.specs.declared.cell.Cell.{Cell}
use Rattle.ldp_distortion.specs.Distortion.{distortion_in, cell_results}
use Rattle.ldp_design.specs.declared.axis.AxisName.TheVariants.{Lat, Lon, Azimuth, Scale}
use Rattle.ldp_design.specs.declared.family.Family.{Family}
use Rattle.ldp_design.specs.declared.design.Design.{Design}
use Rattle.ldp_design.specs.declared.design_box.DesignBox.{DesignBox}
use Rattle.ldp_design.specs.declared.inputs.Inputs4.{Inputs4}
use Rattle.ldp_design.specs.Families.{AreGrids, family_of}
use Rattle.ldp_design.specs.Boxes.{LiesIn as LiesInFamily, IsIn, IsSingle, first_of, last_of}
use Rattle.ldp_design.specs.Inputs.{inputs_at, design_inputs, box_inputs}
use Rattle.ldp_design.specs.Laws.{LieBetween}
use Rattle.ldp_design.proofs.Between.{inputs_lie_between}
use Rattle.ldp_problem.specs.Problem.{IsSound}
use Rattle.ldp_bound.specs.Kinds.{family_lists}
use Rattle.ldp_bound.specs.Plain.{number_inputs, pair_inputs, design_numbers, box_pairs}
use Rattle.ldp_bound.specs.Plain.{distortion_at, range_at, least_size, plain_problem}
use Rattle.ldp_bound.proofs.Carriers.{distortion_follows, distortion_mapped, twice_maps}

-- the least absolute value of a range is at most that of a number in it
least_below : (range : Option (ℤ × ℤ)) (found : Option ℤ) (size : ℕ)
    → ((t : ℤ × ℤ) → range ≡ Some t → Reaches LiesIn found t)
    → option_map unsigned_abs found ≡ Some size → least_size range ≤ size
least_below None found size held e = omega arith
least_below (Some t) found size held e =
    let reached = held t refl in
    let same : unsigned_abs reached.value ≡ size =
    same_Some _ size (ap (option_map unsigned_abs) (sym reached.is) ∙ e) in
    let below : pair_low_abs t ≤ℤ magnitude reached.value =
    (absolute-bounds reached.value t reached.related).least in
    let natural : pos 0 ≤ℤ pair_low_abs t = least-natural t in
    omega (arith, ints, below, natural, same)

-- at a range of one number it is that number's
least_single : (found : Option ℤ)
    → least_size (option_map twice found) ≡ unwrap_or (option_map unsigned_abs found) 0
least_single None = refl
least_single (Some n) = ap unsigned_abs (absolute-of_one n).0

-- the inputs of a design of a box lie in those of the box
inputs_in : (f : Family) (low high at : Inputs4) → LieBetween low high at
    → Pairwise LiesIn (number_inputs at) (pair_inputs low high)
inputs_in f low high at h = (
  record { low = h.lat.0; high = h.lat.1 },
  (
    record { low = h.lon.0; high = h.lon.1 },
    (
      record { low = h.azimuth.0; high = h.azimuth.1 },
      (record { low = h.scale.0; high = h.scale.1 }, tt),
    ),
  ),
)

between : (families : List Family) (b : DesignBox) (d : Design) (f : Family) → AreGrids families
    → LiesInFamily families b → IsIn d b
    → family_of families b.family ≡ Some f
    → LieBetween (inputs_at f (first_of b)) (inputs_at f (last_of b)) (inputs_at f d)
between families b d f grids lies inside found =
    let ends : box_inputs families b ≡ Some (inputs_at f (first_of b), inputs_at f (last_of b)) =
    ap (option_map (λ f. (inputs_at f (first_of b), inputs_at f (last_of b)))) found in
    let here : design_inputs families d ≡ Some (inputs_at f d) =
    ap (option_map (λ f. inputs_at f d)) (ap (family_of families) inside.family ∙ found) in
    let held = (inputs_lie_between families b (inputs_at f (first_of b))
    (inputs_at f (last_of b)) grids lies ends).designs d inside in
    subst (λ o. IsSomeAnd o (LieBetween (inputs_at f (first_of b)) (inputs_at f (last_of b)))) here
    held

-- so does its distortion in the range of the box
pub range_holds : (families : List Family) (cells : List Cell) (b : DesignBox) (d : Design) (i : ℕ)
    (t : ℤ × ℤ) → AreGrids families
    → LiesInFamily families b → IsIn d b → range_at families cells b i ≡ Some t
    → Reaches LiesIn (distortion_at number_ops families cells d.family (design_numbers d) i) t
unfolding distortion_at
range_holds families cells b d i t grids lies inside e =
    let f = lies.family in
    let own : family_of families d.family ≡ Some f = ap (family_of families) inside.family
    ∙ lies.found in
    let near = inputs_in f _ _ (inputs_at f d)
    (between families b d f grids lies inside lies.found) in
    rw own
    (option_and_then_some _ (slice_get cells i) t (rw lies.found at e) (λ cell here last.
    rw here
    (distortion_follows LiesIn number_ops range_ops inclusion
    (λ v. record { low = ≤ℤ_refl v; high = ≤ℤ_refl v }) (family_lists f)
    (cell_results (family_lists f).cell cell)
    (design_numbers d f) (box_pairs b f) t near last)))

-- a single has the same inputs at its low and at its high indices
one_design : (b : DesignBox) → IsSingle b → last_of b ≡ first_of b
one_design b single =
    let lat : b.lat.lo ≡ b.lat.hi = single.one Lat in
    let lon : b.lon.lo ≡ b.lon.hi = single.one Lon in
    let azimuth : b.azimuth.lo ≡ b.azimuth.hi = single.one Azimuth in
    let scale : b.scale.lo ≡ b.scale.hi = single.one Scale in
    cc

pub single_range : (families : List Family) (cells : List Cell) (b : DesignBox) (i : ℕ) → IsSingle b
    → range_at families cells b i
    ≡ option_map twice (distortion_at number_ops families cells b.family
    (design_numbers (first_of b)) i)
unfolding distortion_at
single_range families cells b i single = by_family (family_of families b.family)
  where
    by_cell : (f : Family) (cell : Option Cell)
        → option_and_then (λ c. distortion_in range_ops (family_lists f) (box_pairs b f)
        (cell_results (family_lists f).cell c)) cell
        ≡ option_map twice (option_and_then
        (λ c. distortion_in number_ops (family_lists f) (design_numbers (first_of b) f)
        (cell_results (family_lists f).cell c)) cell)
    by_cell f None = refl
    by_cell f (Some c) =
        ap (λ d. distortion_in range_ops (family_lists f)
        (pair_inputs (inputs_at f (first_of b)) (inputs_at f d))
        (cell_results (family_lists f).cell c)) (one_design b single)
        ∙ distortion_mapped twice number_ops range_ops twice_maps (family_lists f)
        (design_numbers (first_of b) f)
        (cell_results (family_lists f).cell c)

    by_family : (found : Option Family)
        → option_and_then (λ f. option_and_then
        (λ c. distortion_in range_ops (family_lists f) (box_pairs b f)
        (cell_results (family_lists f).cell c)) (slice_get cells i)) found
        ≡ option_map twice (option_and_then
        (λ f. option_and_then (λ c. distortion_in number_ops (family_lists f)
        (design_numbers (first_of b) f) (cell_results (family_lists f).cell c)) (slice_get cells i))
        found)
    by_family None = refl
    by_family (Some f) = by_cell f (slice_get cells i)

pub plain_sound : (families : List Family) (cells : List Cell) (tolerance : Option ℕ)
    → AreGrids families → 0 < length cells
    → IsSound (plain_problem families cells tolerance)
plain_sound families cells tolerance grids some = record {
  some_cell = some;
  below = λ b d i size lies inside within is.
      least_below (range_at families cells b i)
      (distortion_at number_ops families cells d.family (design_numbers d) i) size
      (λ t e. range_holds families cells b d i t grids lies inside e) is;
  single = λ b i lies single within.
      ap least_size (single_range families cells b i single)
      ∙ least_single (distortion_at number_ops families cells b.family
      (design_numbers (first_of b)) i);
}
