-- The entries of a forest, one after another.
use Rattle.std.proofs.Common.{◌≡◌, ℕ, ◌+◌, ◌*◌, ◌<◌, ◌≤◌, ◌==◌, ◌&&◌, nat_le, Bool, true}
use Rattle.std.proofs.Common.{false, List, [], ◌∷◌, ◌++◌, append_assoc, Some, None}
use Rattle.std.proofs.Common.{unwrap_or, Result, Ok, Err, refl, sym, ap, ◌∙◌, arith, if◌then◌else◌}
use Rattle.ldp_spelling.specs.Pieces.{words, ended}
use Rattle.std.proofs.lemmas.Bool.Decides.{nat_tests}
use Rattle.std.proofs.lemmas.List.{append-nil}
use Rattle.ldp_design.specs.declared.node.Node.{Node}
use Rattle.ldp_design.specs.declared.node.Node.TheVariants.{Tree, Split, Leaf, Unusable}
use Rattle.ldp_design.specs.Forests.{is_node}
use Rattle.ldp_job.specs.declared.fault.JobFault.{JobFault}
use Rattle.ldp_job.specs.declared.fault.JobFault.TheVariants.{BadLine, TooManyNodes, Unended}
use Rattle.ldp_job.specs.Faults.{Lines}
use Rattle.ldp_job.specs.Entries.{entry_in, may_stand, standing, is_node_line, pending_after}
use Rattle.ldp_job.specs.Entries.{is_over, is_end, node_value, with_entry, entry_step}
use Rattle.ldp_job.specs.Entries.{forest_at}
use Rattle.ldp_design.specs.Limits.{most_nodes}

-- entries before those that are found
abbrev pub with_front : List Node → Result (List Node × Lines) JobFault
    → Result (List Node × Lines) JobFault
with_front front (Ok found) = Ok (front ++ found.0, found.1)
with_front front (Err fault) = Err fault

pub none_front : (r : Result (List Node × Lines) JobFault) → with_front [] r ≡ r
none_front (Ok found) = refl
none_front (Err fault) = refl

pub front_more : (front : List Node) (n : Node) (r : Result (List Node × Lines) JobFault)
    → with_front front (with_entry n r) ≡ with_front (front ++ n ∷ []) r
front_more front n (Ok found) = let more : front ++ n ∷ found.0 ≡ (front ++ n ∷ []) ++ found.0 =
    sym (append_assoc front (n ∷ []) found.0) in rw more refl
front_more front n (Err fault) = refl

pub front_end : (front : List Node) (rest : Lines)
    → with_front front (Ok ([], rest)) ≡ Ok (front, rest)
front_end front rest = let same : front ++ [] ≡ front = append-nil front in rw same refl

some_is : (x y : List ℕ × Lines) → Some x ≡ Some y → x ≡ y
some_is x y e = ap (λ o. unwrap_or o x) e

-- one step from the first line that is left
step_is : (number nodes pending : ℕ) (ls rest : Lines) (line : List ℕ)
    → ended ls ≡ Some (line, rest)
    → forest_at number nodes pending ls
    ≡ entry_step number nodes pending line rest
    (λ n. forest_at (number + 1) (nodes + node_value n) (pending_after pending n) rest)
step_is number nodes pending [] rest line e = absurd cc
step_is number nodes pending (l ∷ []) rest line e = absurd cc
step_is number nodes pending (l ∷ m ∷ ms) rest line e =
    let both : (l, m ∷ ms) ≡ (line, rest) = some_is (l, m ∷ ms) (line, rest) e in
    let first : l ≡ line = ap (λ p. p.0) both in
    let others : m ∷ ms ≡ rest = ap (λ p. p.1) both in
    ap (λ x. entry_step number nodes pending x (m ∷ ms)
    (λ n. forest_at (number + 1) (nodes + node_value n) (pending_after pending n) (m ∷ ms)))
    first
    ∙ ap (λ x. entry_step number nodes pending line x
    (λ n. forest_at (number + 1) (nodes + node_value n) (pending_after pending n) x)) others

pub unended_is : (number nodes pending : ℕ) (ls : Lines) → ended ls ≡ None
    → forest_at number nodes pending ls ≡ Err (Unended number)
unended_is number nodes pending [] e = refl
unended_is number nodes pending (l ∷ []) e = refl
unended_is number nodes pending (l ∷ m ∷ ms) e = absurd cc

pub over_is : (number nodes pending : ℕ) (ls rest : Lines) (line : List ℕ)
    → ended ls ≡ Some (line, rest) → is_over nodes line ≡ true
    → forest_at number nodes pending ls ≡ Err (TooManyNodes number)
unfolding entry_step
over_is number nodes pending ls rest line e over = step_is number nodes pending ls rest line e
    ∙ rw over refl

pub end_is : (number nodes pending : ℕ) (ls rest : Lines) (line : List ℕ)
    → ended ls ≡ Some (line, rest) → is_over nodes line ≡ false → is_end pending line ≡ true
    → forest_at number nodes pending ls ≡ Ok ([], rest)
unfolding entry_step
end_is number nodes pending ls rest line e over stop = step_is number nodes pending ls rest line e
    ∙ rw (over, stop) refl

pub bad_is : (number nodes pending : ℕ) (ls rest : Lines) (line : List ℕ)
    → ended ls ≡ Some (line, rest) → is_over nodes line ≡ false → is_end pending line ≡ false
    → standing pending (entry_in (words line)) ≡ None
    → forest_at number nodes pending ls ≡ Err (BadLine number)
unfolding entry_step
bad_is number nodes pending ls rest line e over stop none =
    step_is number nodes pending ls rest line e ∙ rw (over, stop, none) refl

pub entry_is : (number nodes pending : ℕ) (ls rest : Lines) (line : List ℕ) (n : Node)
    → ended ls ≡ Some (line, rest) → is_over nodes line ≡ false → is_end pending line ≡ false
    → standing pending (entry_in (words line)) ≡ Some n
    → forest_at number nodes pending ls
    ≡ with_entry n
    (forest_at (number + 1) (nodes + node_value n) (pending_after pending n) rest)
unfolding entry_step
entry_is number nodes pending ls rest line n e over stop some =
    step_is number nodes pending ls rest line e ∙ rw (over, stop, some) refl

-- the numbers of the walk after an entry
pub few_more : (nodes value : ℕ) (line : List ℕ) (n : Node) → value ≡ node_value n
    → is_over nodes line ≡ false → (is_node n ≡ true → is_node_line line ≡ true)
    → nodes ≤ 2000000 → nodes + value ≤ 2000000
few_more nodes value line n v over node few = by (is_node n) refl
  where
    by : (t : Bool) → is_node n ≡ t → nodes + value ≤ 2000000
    by false e = let none : value ≡ 0 = v ∙ rw e refl in omega arith
    by true e =
        let one : value ≡ 1 = v ∙ rw e refl in
        let more : nat_le most_nodes nodes ≡ false =
        ap (λ t. t && nat_le most_nodes nodes) (sym (node e)) ∙ over in
        let below : nodes < 2000000 = grind (arith, nat_tests) in
        omega arith

pub parts_more : (nodes pending : ℕ) (n : Node) → pending ≤ nodes + 1
    → pending_after pending n ≤ nodes + node_value n + 1
parts_more nodes pending (Tree family) h = omega arith
parts_more nodes pending (Split axis cut) h = omega arith
parts_more nodes pending (Leaf cell) h = omega arith
parts_more nodes pending (Unusable cell) h = omega arith

pub place_more : (number first nodes pending : ℕ) (n : Node) → may_stand pending n ≡ true
    → number ≤ first + 2 * nodes + pending
    → number + 1 ≤ first + 2 * (nodes + node_value n) + pending_after pending n
place_more number first nodes pending (Tree family) h k = let none : pending ≡ 0 =
    starts pending h in omega arith
  where
    starts : (p : ℕ) → (if p == 0 then true else false) ≡ true → p ≡ 0
    starts p e = grind (arith, nat_tests)
place_more number first nodes pending (Split axis cut) h k = omega arith
place_more number first nodes pending (Leaf cell) h k = omega arith
place_more number first nodes pending (Unusable cell) h k = omega arith
