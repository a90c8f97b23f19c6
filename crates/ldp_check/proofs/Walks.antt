-- A walk along the entries: what is left of it, and what it keeps.
use Rattle.std.proofs.Common.{◌≡◌, ◌≤◌, ◌+◌, ℕ, suc, true, false, List, [], ◌∷◌, length, drop}
use Rattle.std.proofs.Common.{Option, Some, None, refl, ap, ◌∙◌, arith}
use Rattle.std.specs.Prelude.{slice_get, is_some}
use Rattle.std.proofs.lemmas.List.{drop_more, drop_all}
use Rattle.std.proofs.lemmas.List.Elements.{All-cons, All-head, All-tail}
use Rattle.std.proofs.lemmas.Option.{slice_get_within, get_or_from_slice_get}
use Rattle.ldp_design.specs.declared.axis.AxisName.{AxisName}
use Rattle.ldp_design.specs.declared.family.Family.{Family}
use Rattle.ldp_design.specs.declared.design_box.DesignBox.{DesignBox}
use Rattle.ldp_design.specs.declared.node.Node.{Node}
use Rattle.ldp_design.specs.declared.node.Node.TheVariants.{Tree, Split, Leaf, Unusable}
use Rattle.ldp_design.specs.Families.{AreGrids, family_of}
use Rattle.ldp_design.specs.Boxes.{LiesIn, whole_box}
use Rattle.ldp_design.specs.Laws.{AllLieIn, AreParts}
use Rattle.ldp_design.specs.Splits.{parts_at}
use Rattle.ldp_design.specs.Forests.{Place, after}
use Rattle.ldp_design.proofs.Wholes.{wholes_hold}
use Rattle.ldp_design.proofs.Cuts.{cuts_part}
use Rattle.ldp_problem.specs.declared.pair.Pair.{Pair}
use Rattle.ldp_problem.specs.Problem.{Problem}
use Rattle.ldp_check.specs.declared.reason.Reason.{Reason}
use Rattle.ldp_check.specs.Entries.{fault_at, first_fault, missing_fault}
use Rattle.ldp_check.specs.Walks.{IsPlace}
use Rattle.ldp_check.proofs.Faults.{tree_in_place, is_cut}

next_entry : (entries : List Node) (i : ℕ) (entry : Node) → slice_get entries i ≡ Some entry
    → drop i entries ≡ entry ∷ drop (i + 1) entries
next_entry entries i entry e =
    drop_more entries i entry (slice_get_within entries i entry e)
    ∙ ap (λ n. n ∷ drop (i + 1) entries) (get_or_from_slice_get entries i entry entry e)

pub turn_found : (p : Problem) (w : Pair) (line i : ℕ) (entries : List Node) (entry : Node)
    (at : Place) (fault : Option Reason)
    → slice_get entries i ≡ Some entry → fault ≡ fault_at p w line entry at → is_some fault ≡ true
    → fault ≡ first_fault p w line (drop i entries) at
turn_found p w line i entries entry at None e h k = absurd cc
turn_found p w line i entries entry at (Some r) e h k = rw (next_entry entries i entry e, ← h) refl

pub no_fault : (fault : Option Reason) → is_some fault ≡ false → fault ≡ None
no_fault None e = refl
no_fault (Some r) e = absurd cc

pub turn_next : (p : Problem) (w : Pair) (line next i : ℕ) (entries : List Node) (entry : Node)
    (at then : Place)
    → slice_get entries i ≡ Some entry → fault_at p w line entry at ≡ None → next ≡ line + 1
    → then ≡ after p.families entry at
    → first_fault p w next (drop (i + 1) entries) then ≡ first_fault p w line (drop i entries) at
turn_next p w line next i entries entry at then e h k l =
    rw (next_entry entries i entry e, h, k, l) refl

pub turn_end : (p : Problem) (w : Pair) (line i : ℕ) (entries : List Node) (at : Place)
    → length entries ≤ i
    → first_fault p w line (drop i entries) at ≡ missing_fault p.families at.trees
turn_end p w line i entries at h = rw (drop_all i entries h) refl

tree_place : (families : List Family) (k number : ℕ) (at : Place) (f : Option Family)
    → family_of families number ≡ f
    → AreGrids families → IsPlace families k at
    → (number ≡ suc at.trees) × (number ≤ length families)
    → IsPlace families (k + 1) (after families (Tree number) at)
tree_place families k number at None e grids h n =
    rw e record { trees = omega (arith, n.0, n.1); boxes = h.boxes; short = omega (arith, h.short) }
tree_place families k number at (Some f) e grids h n =
    let lies : LiesIn families (whole_box number f) =
    (wholes_hold families number (whole_box number f) grids (rw e refl)).lies in
    rw e record {
      trees = omega (arith, n.0, n.1);
      boxes = All-cons (LiesIn families) (whole_box number f) at.boxes lies h.boxes;
      short = omega (arith, h.short);
    }

split_place : (families : List Family) (k trees line : ℕ) (axis : AxisName) (cut : ℕ)
    (boxes : List DesignBox)
    → IsPlace families k (record { trees = trees; boxes = boxes })
    → ((b : DesignBox) (rest : List DesignBox) → boxes ≡ b ∷ rest
    → AreParts families b (parts_at axis cut b).0 (parts_at axis cut b).1)
    → IsPlace families (k + 1) (after families (Split axis cut)
    (record { trees = trees; boxes = boxes }))
split_place families k trees line axis cut [] h parts =
    record { trees = h.trees; boxes = h.boxes; short = omega (arith, h.short) }
split_place families k trees line axis cut (b ∷ boxes) h parts =
    let two = parts b boxes refl in
    record {
      trees = h.trees;
      boxes =
          All-cons (LiesIn families) (parts_at axis cut b).0 ((parts_at axis cut b).1 ∷ boxes)
          two.low_lies
          (All-cons (LiesIn families) (parts_at axis cut b).1 boxes two.high_lies
          (All-tail (LiesIn families) b boxes h.boxes));
      short = omega (arith, h.short);
    }

closed_place : (families : List Family) (k trees : ℕ) (boxes : List DesignBox)
    → IsPlace families k (record { trees = trees; boxes = boxes })
    → IsPlace families (k + 1) (record { trees = trees; boxes = drop 1 boxes })
closed_place families k trees [] h =
    record { trees = h.trees; boxes = h.boxes; short = omega (arith, h.short) }
closed_place families k trees (b ∷ boxes) h = record {
  trees = h.trees;
  boxes = All-tail (LiesIn families) b boxes h.boxes;
  short = omega (arith, h.short);
}

cut_parts : (p : Problem) (line trees : ℕ) (axis : AxisName) (cut : ℕ) (boxes : List DesignBox)
    (w : Pair)
    → AllLieIn p.families boxes → fault_at p w line (Split axis cut)
    (record { trees = trees; boxes = boxes }) ≡ None
    → (b : DesignBox) (rest : List DesignBox) → boxes ≡ b ∷ rest
    → AreParts p.families b (parts_at axis cut b).0 (parts_at axis cut b).1
cut_parts p line trees axis cut [] w lies none b rest e = absurd cc
cut_parts p line trees axis cut (first ∷ boxes) w lies none b rest e =
    let same : first ≡ b = cc in
    rw (← same)
    (cuts_part p.families first axis cut (All-head (LiesIn p.families) first boxes lies)
    (is_cut line axis cut first none))

-- an entry without a fault leads to the next place
pub place_next : (p : Problem) (w : Pair) (line k : ℕ) (entry : Node) (at : Place)
    → AreGrids p.families
    → IsPlace p.families k at → fault_at p w line entry at ≡ None
    → IsPlace p.families (k + 1) (after p.families entry at)
place_next p w line k (Tree number) at grids h none =
    tree_place p.families k number at (family_of p.families number) refl grids h
    (tree_in_place p.families line number at.trees none)
place_next p w line k (Split axis cut) at grids h none =
    split_place p.families k at.trees line axis cut at.boxes h
    (cut_parts p line at.trees axis cut at.boxes w h.boxes none)
place_next p w line k (Leaf cell) at grids h none = closed_place p.families k at.trees at.boxes h
place_next p w line k (Unusable cell) at grids h none =
    closed_place p.families k at.trees at.boxes h
