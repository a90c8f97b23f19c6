-- An entry that has no fault in one line has none in another.
use Rattle.std.proofs.Common.{◌≡◌, ℕ, ◌+◌, Bool, true, false, List, [], ◌∷◌, refl}
use Rattle.std.proofs.Common.{Option, Some, None, if◌then◌else◌}
use Rattle.std.specs.Prelude.{nat_lt}
use Rattle.std.specs.Bool.{then_some}
use Rattle.std.specs.Option.{option_or}
use Rattle.ldp_design.specs.declared.design_box.DesignBox.{DesignBox}
use Rattle.ldp_design.specs.declared.node.Node.{Node}
use Rattle.ldp_design.specs.declared.node.Node.TheVariants.{Tree, Split, Leaf, Unusable}
use Rattle.ldp_design.specs.Forests.{Place, after}
use Rattle.ldp_problem.specs.declared.pair.Pair.{Pair}
use Rattle.ldp_problem.specs.Problem.{Problem}
use Rattle.ldp_problem.specs.Pairs.{is_smaller}
use Rattle.ldp_check.specs.declared.reason.Reason.{Reason}
use Rattle.ldp_check.specs.Entries.{open_fault, box_fault, fault_at, first_fault}

not_given : (test : Bool) (reason other : Reason) → then_some test reason ≡ None
    → then_some test other ≡ None
not_given true reason other e = absurd cc
not_given false reason other e = refl

passed : (test : Bool) (now next : Option Reason) (reason other : Reason)
    → (now ≡ None → next ≡ None) → (if test then now else Some reason) ≡ None
    → (if test then next else Some other) ≡ None
passed true now next reason other more e = more e
passed false now next reason other more e = absurd cc

pub both_none : (first second : Option Reason) → option_or first second ≡ None
    → (first ≡ None) × (second ≡ None)
both_none None second e = (refl, e)
both_none (Some reason) second e = absurd cc

pub neither : (first second : Option Reason) → first ≡ None → second ≡ None
    → option_or first second ≡ None
neither None second e f = f
neither (Some reason) second e f = absurd cc

closed_in : (tolerance : Option ℕ) (printed shown : Pair) (line other : ℕ)
    → open_fault tolerance printed line shown ≡ None
    → open_fault tolerance printed other shown ≡ None
closed_in None printed shown line other e = not_given (nat_lt shown.value printed.value) _ _ e
closed_in (Some tolerance) printed shown line other e =
    not_given (is_smaller shown printed) _ _ e

box_passes : (now next : DesignBox → Option Reason) (boxes : List DesignBox)
    → ((b : DesignBox) → now b ≡ None → next b ≡ None) → box_fault now boxes ≡ None
    → box_fault next boxes ≡ None
box_passes now next [] more e = refl
box_passes now next (b ∷ boxes) more e = more b e

entry_passes : (p : Problem) (printed : Pair) (line other : ℕ) (entry : Node) (at : Place)
    → fault_at p printed line entry at ≡ None → fault_at p printed other entry at ≡ None
entry_passes p printed line other (Tree number) at e = not_given _ _ _ e
entry_passes p printed line other (Split axis cut) at e =
    box_passes _ _ at.boxes (λ b h. not_given _ _ _ h) e
entry_passes p printed line other (Leaf cell) at e =
    box_passes _ _ at.boxes
    (λ b h. passed (nat_lt cell p.cells) _ _ _ _ (closed_in p.tolerance printed _ line other) h) e
entry_passes p printed line other (Unusable cell) at e =
    box_passes _ _ at.boxes
    (λ b h. passed (nat_lt cell p.cells) _ _ _ _ (λ k. not_given _ _ _ k) h) e

-- nor have entries in other lines
pub entries_pass : (p : Problem) (printed : Pair) (line other : ℕ) (entries : List Node)
    (at : Place) → first_fault p printed line entries at ≡ None
    → first_fault p printed other entries at ≡ None
entries_pass p printed line other [] at e = e
entries_pass p printed line other (entry ∷ entries) at e =
    let h = both_none (fault_at p printed line entry at)
    (first_fault p printed (line + 1) entries (after p.families entry at)) e in
    neither (fault_at p printed other entry at)
    (first_fault p printed (other + 1) entries (after p.families entry at))
    (entry_passes p printed line other entry at h.0)
    (entries_pass p printed (line + 1) (other + 1) entries (after p.families entry at) h.1)
