-- What follows where an entry has no fault.
use Rattle.std.proofs.Common.{◌≡◌, ◌<◌, ◌≤◌, ℕ, suc, Bool, true, false, List, length, Option, Some}
use Rattle.std.proofs.Common.{None, refl, arith}
use Rattle.std.proofs.lemmas.Bool.Decides.{nat_tests}
use Rattle.std.specs.Prelude.{nat_lt, not, ◌&&◌, is_none, if◌then◌else◌}
use Rattle.std.specs.Bool.{then_some}
use Rattle.std.specs.Option.{option_or}
use Rattle.ldp_design.specs.declared.axis.AxisName.{AxisName}
use Rattle.ldp_design.specs.declared.family.Family.{Family}
use Rattle.ldp_design.specs.declared.design_box.DesignBox.{DesignBox}
use Rattle.ldp_design.specs.Boxes.{is_single, IsSingle, first_of}
use Rattle.ldp_design.specs.Splits.{IsCut}
use Rattle.ldp_design.proofs.Splits.{singles_are_tested}
use Rattle.ldp_problem.specs.declared.pair.Pair.{Pair}
use Rattle.ldp_problem.specs.Problem.{Problem}
use Rattle.ldp_check.specs.declared.reason.Reason.{Reason}
use Rattle.ldp_check.specs.Entries.{tree_fault, split_fault, leaf_fault, leaf_pair, open_fault}
use Rattle.ldp_check.specs.Entries.{unusable_fault, missing_fault}

pub both_none : {A : Type 0} (a b : Option A) → option_or a b ≡ None → (a ≡ None) × (b ≡ None)
both_none None b e = (refl, e)
both_none (Some x) b e = absurd cc

pub holds : {A : Type 0} (b : Bool) (r : A) → then_some (not b) r ≡ None → b ≡ true
holds true r e = refl
holds false r e = absurd cc

pub fails : {A : Type 0} (b : Bool) (r : A) → then_some b r ≡ None → b ≡ false
fails true r e = absurd cc
fails false r e = refl

passed : (b : Bool) (o : Option Reason) (r : Reason) → (if b then o else Some r) ≡ None
    → (b ≡ true) × (o ≡ None)
passed true o r e = (refl, e)
passed false o r e = absurd cc

pub tree_in_place : (families : List Family) (line number trees : ℕ)
    → tree_fault families line number trees ≡ None
    → (number ≡ suc trees) × (number ≤ length families)
tree_in_place families line number trees e =
    let h = holds _ _ e in (grind (arith, nat_tests), grind (arith, nat_tests))

pub is_cut : (line : ℕ) (axis : AxisName) (at : ℕ) (b : DesignBox)
    → split_fault line axis at b ≡ None → IsCut axis at b
is_cut line axis at b e =
    let h =
    holds _ _ e in record { low = grind (arith, nat_tests); high = grind (arith, nat_tests) }

pub leaf_closed : (p : Problem) (w : Pair) (line cell : ℕ) (b : DesignBox)
    → leaf_fault p w line cell b ≡ None
    → (cell < p.cells) × (open_fault p.tolerance w line (leaf_pair p b cell) ≡ None)
leaf_closed p w line cell b e =
    let h = passed (nat_lt cell p.cells) _ _ e in
    (grind (arith, nat_tests, h.0), h.1)

-- a box whose one design is undefined at the cell
pub record IsUnusable (p : Problem) (cell : ℕ) (b : DesignBox) : Type 0 where
  pub within : cell < p.cells
  pub single : IsSingle b
  pub undefined : p.delta (first_of b) cell ≡ None

none_is : {A : Type 0} (o : Option A) → is_none o ≡ true → o ≡ None
none_is None e = refl
none_is (Some x) e = absurd cc

both_true : (a b : Bool) → (a && b) ≡ true → (a ≡ true) × (b ≡ true)
both_true true b e = (refl, e)
both_true false b e = absurd cc

pub unusable_is : (p : Problem) (line cell : ℕ) (b : DesignBox)
    → unusable_fault p line cell b ≡ None → IsUnusable p cell b
unusable_is p line cell b e =
    let h = passed (nat_lt cell p.cells) _ _ e in
    let k = both_true (is_single b) (is_none (p.delta (first_of b) cell)) (holds _ _ h.1) in
    record {
      within = grind (arith, nat_tests, h.0);
      single = (singles_are_tested b).0 k.0;
      undefined = none_is (p.delta (first_of b) cell) k.1;
    }

pub all_begun : (families : List Family) (trees : ℕ) → missing_fault families trees ≡ None
    → length families ≤ trees
all_begun families trees e = let h = fails _ _ e in grind (arith, nat_tests)
