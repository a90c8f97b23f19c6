-- The entries of a canonical forest are in range.
use Rattle.std.proofs.Common.{◌≡◌, ◌≤◌, ◌<◌, ℕ, zero, suc, Bool, true, false, List, [], ◌∷◌, ◌++◌}
use Rattle.std.proofs.Common.{length, Option, None, Some, sym, subst, arith}
use Rattle.std.specs.Prelude.{if◌then◌else◌}
use Rattle.ldp_design.specs.declared.axis.AxisName.{AxisName}
use Rattle.ldp_design.specs.declared.family.Family.{Family}
use Rattle.ldp_design.specs.declared.design_box.DesignBox.{DesignBox}
use Rattle.ldp_design.specs.declared.node.Node.{Node}
use Rattle.ldp_design.specs.declared.node.Node.TheVariants.{Tree}
use Rattle.ldp_design.specs.Families.{AreGrids}
use Rattle.ldp_design.specs.Boxes.{LiesIn, is_single, first_of}
use Rattle.ldp_design.specs.Designs.{axis_of}
use Rattle.ldp_design.specs.Splits.{IsCut, parts_at, cut_for}
use Rattle.ldp_design.proofs.Ranged.{families_in_range}
use Rattle.ldp_design.proofs.Cuts.{cuts_part}
use Rattle.ldp_design.proofs.Splits.{splits_cut}
use Rattle.ldp_design.proofs.Wholes.{wholes_hold}
use Rattle.ldp_problem.specs.declared.pair.Pair.{Pair}
use Rattle.ldp_problem.specs.Problem.{Problem}
use Rattle.ldp_problem.specs.Costs.{first_undefined}
use Rattle.ldp_problem.proofs.Facts.{first_undefined_is, bound_at_cell}
use Rattle.ldp_job.specs.Values.{AreEntries}
use Rattle.ldp_optimum.specs.Best.{least}
use Rattle.ldp_optimum.specs.Forest.{tree_of, first_trees, forest}
use Rattle.ldp_optimum.specs.Trees.{IsTreeOf}
use Rattle.ldp_optimum.specs.Trees.IsTreeOf.{undefined, closed, parted}
use Rattle.ldp_optimum.proofs.Trees.{trees_are_trees}
use Rattle.ldp_optimum.proofs.Forests.{next_tree, all_trees}
use Rattle.ldp_agreement.specs.Texts.{IsPrintable}
use Rattle.ldp_agreement.proofs.Forests.{whole_at}

pub entries-append : (xs ys : List Node) → AreEntries xs → AreEntries ys → AreEntries (xs ++ ys)
entries-append [] ys h k = k
entries-append (x ∷ xs) ys h k = (h.0, entries-append xs ys h.1 k)

undefined_within : (p : Problem) (b : DesignBox) (single : Bool) (cell : ℕ)
    → (if single then first_undefined p (first_of b) else None) ≡ Some cell → cell < p.cells
undefined_within p b true cell e = (first_undefined_is p (first_of b) cell e).0
undefined_within p b false cell e = absurd cc

-- a cut lies below a count
cut_small : (families : List Family) (b : DesignBox) (axis : AxisName) (at : ℕ) → AreGrids families
    → LiesIn families b → cut_for families b ≡ Some (axis, at) → at ≤ 4_294_967_295
cut_small families b axis at g lies e =
    let is : IsCut axis at b = splits_cut families b axis at g lies e in
    let few : (axis_of axis lies.family).count ≤ 100_000 =
    (families_in_range families b.family lies.family g lies.found).counts axis in
    omega (arith, is.high, lies.within.within axis, few)

tree_entries : (p : Problem) (w : Option Pair) (b : DesignBox) (ns : List Node) → IsPrintable p
    → LiesIn p.families b → IsTreeOf p w b ns → AreEntries ns
tree_entries p w b _ h lies (undefined _ cell e) =
    (omega (arith, undefined_within p b (is_single b) cell e, h.few_cells), tt)
tree_entries p w b _ h lies (closed _ e k) =
    (omega (arith, (bound_at_cell p b h.some_cell).0, h.few_cells), tt)
tree_entries p w b _ h lies (parted _ axis at low high e k l m) =
    let is : IsCut axis at b = splits_cut p.families b axis at h.grids lies k in
    let parts = cuts_part p.families b axis at lies is in (
      cut_small p.families b axis at h.grids lies k,
      entries-append low high
          (tree_entries p w (parts_at axis at b).0 low h parts.low_lies l)
          (tree_entries p w (parts_at axis at b).1 high h parts.high_lies m),
    )

first_entries : (p : Problem) (count : ℕ) → IsPrintable p → count ≤ length p.families
    → AreEntries (first_trees p count)
first_entries p zero h k = tt
first_entries p (suc count) h k =
    let whole = whole_at p.families count k in
    let is = wholes_hold p.families (suc count) whole.0 h.grids whole.1 in
    subst AreEntries (sym (next_tree p count whole.0 whole.1))
    (entries-append (first_trees p count) (Tree (suc count) ∷ tree_of p (least p) whole.0)
    (first_entries p count h (omega (arith, k))) (
      (omega arith, omega (arith, k, h.grids.few)),
      tree_entries p (least p) whole.0 (tree_of p (least p) whole.0) h is.lies
          (trees_are_trees p (least p) whole.0 h.grids is.lies),
    ))

pub forest_entries : (p : Problem) → IsPrintable p → AreEntries (forest p)
forest_entries p h =
    subst AreEntries (all_trees p) (first_entries p (length p.families) h (omega arith))
