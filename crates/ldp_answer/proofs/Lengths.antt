-- A forest without a fault has as many trees as numbers of families can count.
use Rattle.std.proofs.Common.{◌≡◌, ◌≤◌, ℕ, suc, ◌+◌, ◌==◌, ◌&&◌, Bool, true, false, List, [], ◌∷◌}
use Rattle.std.proofs.Common.{length, refl, arith, cond, None}
use Rattle.std.proofs.lemmas.Bool.Decides.{nat_tests}
use Rattle.std.proofs.lemmas.List.Sums.{sum_by-cons}
use Rattle.std.specs.Prelude.{nat_le, not}
use Rattle.std.specs.Bool.{then_some}
use Rattle.ldp_design.specs.declared.node.Node.{Node}
use Rattle.ldp_design.specs.declared.node.Node.TheVariants.{Tree, Split, Leaf, Unusable}
use Rattle.ldp_design.specs.Forests.{Place, after, is_node, node_count}
use Rattle.ldp_problem.specs.declared.pair.Pair.{Pair}
use Rattle.ldp_problem.specs.Problem.{Problem}
use Rattle.ldp_job.specs.Values.{AreEntries}
use Rattle.ldp_check.specs.declared.reason.Reason.{Reason}
use Rattle.ldp_check.specs.Entries.{fault_at, first_fault}
use Rattle.ldp_answer.proofs.Lines.{both_none}

holds : (test : Bool) (reason : Reason) → then_some (not test) reason ≡ None → test ≡ true
holds true reason e = refl
holds false reason e = absurd cc

in_place : (number trees families : ℕ) (reason : Reason)
    → then_some (not (number == suc trees && nat_le number families)) reason ≡ None
    → number ≡ suc trees
in_place number trees families reason e = let h = holds _ _ e in grind (arith, nat_tests)

pub entries_few : (p : Problem) (printed : Pair) (line : ℕ) (entries : List Node) (at : Place)
    → AreEntries entries → at.trees ≤ 65535 → first_fault p printed line entries at ≡ None
    → length entries + at.trees ≤ node_count entries + 65535
entries_few p printed line [] at valid few e = omega arith
entries_few p printed line (Tree number ∷ entries) at valid few e =
    let h = both_none (fault_at p printed line (Tree number) at)
    (first_fault p printed (line + 1) entries (after p.families (Tree number) at)) e in
    let same : number ≡ suc at.trees = in_place number at.trees _ _ h.0 in
    let more = entries_few p printed (line + 1) entries (after p.families (Tree number) at) valid.1
    (omega (arith, valid.0.1)) h.1 in
    omega (arith, more, sum_by-cons (λ x. cond (is_node x) 1 0) (Tree number) entries)
entries_few p printed line (Split axis cut ∷ entries) at valid few e =
    let h = both_none (fault_at p printed line (Split axis cut) at)
    (first_fault p printed (line + 1) entries (after p.families (Split axis cut) at)) e in
    let more = entries_few p printed (line + 1) entries (after p.families (Split axis cut) at)
    valid.1 few h.1 in
    omega (arith, more, sum_by-cons (λ x. cond (is_node x) 1 0) (Split axis cut) entries)
entries_few p printed line (Leaf cell ∷ entries) at valid few e =
    let h = both_none (fault_at p printed line (Leaf cell) at)
    (first_fault p printed (line + 1) entries (after p.families (Leaf cell) at)) e in
    let more = entries_few p printed (line + 1) entries (after p.families (Leaf cell) at)
    valid.1 few h.1 in
    omega (arith, more, sum_by-cons (λ x. cond (is_node x) 1 0) (Leaf cell) entries)
entries_few p printed line (Unusable cell ∷ entries) at valid few e =
    let h = both_none (fault_at p printed line (Unusable cell) at)
    (first_fault p printed (line + 1) entries (after p.families (Unusable cell) at)) e in
    let more = entries_few p printed (line + 1) entries (after p.families (Unusable cell) at)
    valid.1 few h.1 in
    omega (arith, more, sum_by-cons (λ x. cond (is_node x) 1 0) (Unusable cell) entries)
