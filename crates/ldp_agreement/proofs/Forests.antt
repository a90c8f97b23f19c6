-- A walk along the canonical forest finds no fault.
use Rattle.std.proofs.Common.{◌≡◌, ◌≤◌, ◌+◌, ℕ, zero, suc, Bool, true, false, not, ◌&&◌, ◌==◌}
use Rattle.std.proofs.Common.{List, [], ◌∷◌, ◌++◌, append_assoc, length, Option, None, Some, refl}
use Rattle.std.proofs.Common.{sym, ap, subst, ◌∙◌, arith}
use Rattle.std.proofs.lemmas.Bool.{le-leb, le-ltb, eq-eqb}
use Rattle.std.proofs.lemmas.Option.{gets}
use Rattle.std.specs.Prelude.{nat_lt, nat_le, slice_get, option_map}
use Rattle.std.specs.Bool.{then_some}
use Rattle.ldp_design.specs.declared.family.Family.{Family}
use Rattle.ldp_design.specs.declared.design_box.DesignBox.{DesignBox}
use Rattle.ldp_design.specs.declared.node.Node.{Node}
use Rattle.ldp_design.specs.declared.node.Node.TheVariants.{Tree}
use Rattle.ldp_design.specs.Families.{AreGrids}
use Rattle.ldp_design.specs.Boxes.{whole_box, whole_of, LiesIn}
use Rattle.ldp_design.specs.Forests.{after, start}
use Rattle.ldp_design.proofs.Wholes.{wholes_hold}
use Rattle.ldp_problem.specs.declared.pair.Pair.{Pair}
use Rattle.ldp_problem.specs.Problem.{Problem, IsSound}
use Rattle.ldp_optimum.specs.Best.{least}
use Rattle.ldp_optimum.specs.Forest.{tree_of, first_trees, forest}
use Rattle.ldp_optimum.specs.Trees.{IsTreeOf}
use Rattle.ldp_optimum.proofs.Trees.{trees_are_trees}
use Rattle.ldp_optimum.proofs.Forests.{next_tree, all_trees}
use Rattle.ldp_check.specs.declared.reason.Reason.TheVariants.{TreeOutOfPlace, FamilyMissing}
use Rattle.ldp_check.specs.Entries.{tree_fault, missing_fault, first_fault}
use Rattle.ldp_agreement.proofs.Walks.{NoFault, IsLeast, first_none, walked}

sound_tree : (families : List Family) (line number trees : ℕ) → number ≡ suc trees
    → number ≤ length families
    → tree_fault families line number trees ≡ None
sound_tree families line number trees e h =
    no_fault (number == suc trees) (nat_le number (length families))
    (eq-eqb number (suc trees) e) (le-leb number (length families) h)
  where
    no_fault : (s t : Bool) → s ≡ true → t ≡ true
        → then_some (not (s && t)) (TreeOutOfPlace line) ≡ None
    no_fault s t e f = rw (e, f) refl

none_missing : (families : List Family) → missing_fault families (length families) ≡ None
none_missing families =
    no_fault (nat_lt (length families) (length families))
    (le-ltb (length families) (length families) (omega arith))
  where
    no_fault : (t : Bool) → t ≡ false → then_some t (FamilyMissing (suc (length families))) ≡ None
    no_fault t e = rw e refl

-- the place after the beginning of a tree
planted_at : (families : List Family) (trees : ℕ) (whole : DesignBox)
    → whole_of families (suc trees) ≡ Some whole
    → after families (Tree (suc trees)) (record { trees = trees; boxes = [] })
    ≡ record { trees = suc trees; boxes = whole ∷ [] }
planted_at families trees whole e = rw e refl

-- the entry of a tree and its nodes, and then the others
tree_walked : (p : Problem) (w : Pair) (trees : ℕ) (whole : DesignBox) (entries : List Node)
    → IsSound p → AreGrids p.families → IsLeast p w → least p ≡ Some w
    → suc trees ≤ length p.families
    → whole_of p.families (suc trees) ≡ Some whole → NoFault p w entries (suc trees) []
    → NoFault p w (Tree (suc trees) ∷ (tree_of p (least p) whole ++ entries)) trees []
unfolding NoFault
tree_walked p w trees whole entries sound g l e h is later line =
    let lies : LiesIn p.families whole = (wholes_hold p.families (suc trees) whole g is).lies in
    let nodes : NoFault p w (tree_of p (least p) whole ++ entries) (suc trees) (whole ∷ []) =
    walked p w whole (tree_of p (least p) whole) entries (suc trees) [] sound g l lies
    (subst (λ o. IsTreeOf p o whole (tree_of p (least p) whole)) e
    (trees_are_trees p (least p) whole g lies)) later in
    first_none (sound_tree p.families line (suc trees) trees refl h)
    (ap (first_fault p w (line + 1) (tree_of p (least p) whole ++ entries))
    (planted_at p.families trees whole is)
    ∙ nodes (line + 1))

pub whole_at : (families : List Family) (trees : ℕ) → suc trees ≤ length families
    → (whole : DesignBox) × (whole_of families (suc trees) ≡ Some whole)
whole_at families trees h = by_family (slice_get families trees) refl
  where
    by_family : (o : Option Family) → slice_get families trees ≡ o
        → (whole : DesignBox) × (whole_of families (suc trees) ≡ Some whole)
    by_family (Some f) e = (whole_box (suc trees) f, ap (option_map (whole_box (suc trees))) e)
    by_family None e = absurd (grind (arith, gets))

-- the trees of the first families, and then the others
first_walked : (p : Problem) (w : Pair) (count : ℕ) (entries : List Node)
    → IsSound p → AreGrids p.families → IsLeast p w → least p ≡ Some w → count ≤ length p.families
    → NoFault p w entries count [] → NoFault p w (first_trees p count ++ entries) 0 []
first_walked p w zero entries sound g l e h later = later
first_walked p w (suc count) entries sound g l e h later =
    let whole = whole_at p.families count h in
    subst (λ ns. NoFault p w ns 0 [])
    (sym (ap (λ ns. ns ++ entries) (next_tree p count whole.0 whole.1)
    ∙ append_assoc (first_trees p count) (Tree (suc count) ∷ tree_of p (least p) whole.0) entries))
    (first_walked p w count (Tree (suc count) ∷ (tree_of p (least p) whole.0 ++ entries))
    sound g l e (omega arith)
    (tree_walked p w count whole.0 entries sound g l e h whole.1 later))

append_nil : (xs : List Node) → xs ++ [] ≡ xs
append_nil [] = refl
append_nil (x ∷ xs) = ap (λ ys. x ∷ ys) (append_nil xs)

ended : (p : Problem) (w : Pair) → NoFault p w [] (length p.families) []
unfolding NoFault
ended p w line = none_missing p.families

at_start : (p : Problem) (w : Pair) (entries : List Node) (line : ℕ) → NoFault p w entries 0 []
    → first_fault p w line entries start ≡ None
unfolding NoFault
at_start p w entries line h = h line

pub forest_walked : (p : Problem) (w : Pair) (line : ℕ) → IsSound p → AreGrids p.families
    → IsLeast p w
    → least p ≡ Some w → first_fault p w line (forest p) start ≡ None
forest_walked p w line sound g l e =
    at_start p w (forest p) line
    (subst (λ ns. NoFault p w ns 0 [])
    (append_nil (first_trees p (length p.families)) ∙ all_trees p)
    (first_walked p w (length p.families) [] sound g l e (omega arith) (ended p w)))
