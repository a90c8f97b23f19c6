-- The forest of a job: what is read is what is written, and what is written is read.
use Rattle.std.proofs.Common.{◌≡◌, ℕ, zero, suc, ◌+◌, ◌-◌, ◌<◌, ◌≤◌, ◌==◌, ◌&&◌, nat_le, Bool, true}
use Rattle.std.proofs.Common.{false, List, [], ◌∷◌, ◌++◌, length, map, codes}
use Rattle.std.proofs.Common.{Option, Some, None, cond, Result, Ok, Err, refl, sym, ap}
use Rattle.std.proofs.Common.{subst, ◌∙◌, arith, if◌then◌else◌}
use Rattle.std.specs.Prelude.{bytes_eq}
use Rattle.std.specs.List.{list_all}
use Rattle.std.proofs.lemmas.List.Sums.{sum_by-cons}
use Rattle.std.proofs.lemmas.Bool.Decides.{nat_tests}
use Rattle.ldp_spelling.specs.Pieces.{words, line_of}
use Rattle.ldp_design.specs.declared.node.Node.{Node}
use Rattle.ldp_design.specs.declared.node.Node.TheVariants.{Tree, Split, Leaf, Unusable}
use Rattle.ldp_design.specs.Forests.{is_node, is_shaped, node_count}
use Rattle.ldp_job.specs.declared.fault.JobFault.{JobFault}
use Rattle.ldp_job.specs.declared.fault.JobFault.TheVariants.{TooManyNodes}
use Rattle.ldp_job.specs.Faults.{Lines}
use Rattle.ldp_job.specs.Values.{IsEntry, AreEntries}
use Rattle.ldp_job.specs.Texts.{entry_words, forest_words}
use Rattle.ldp_job.specs.Entries.{entry_in, may_stand, standing, is_over, is_end}
use Rattle.ldp_job.specs.Entries.{pending_after, node_value, with_entry, entered, entry_step}
use Rattle.ldp_job.specs.Entries.{forest_at}
use Rattle.ldp_design.specs.Limits.{most_nodes}
use Rattle.ldp_job.proofs.Taken.{same_word}
use Rattle.ldp_job.proofs.Entered.{entry_again, standing_found, node_line, node_line_of}
use Rattle.ldp_job.proofs.Lined.{inside_ok, words_are, is_written, ended_is}
use Rattle.ldp_job.proofs.Walks.{end_is, entry_is, few_more}

-- the shape after an entry, and before it
after_some : (p : ℕ) (n : Node) → is_node n ≡ true → may_stand (suc p) n ≡ true
after_some p n e = let some : (suc p == 0) ≡ false = grind (arith, nat_tests) in rw some e

one_more : (p : ℕ) → suc p + 1 ≡ suc (suc p)
one_more p = omega arith

one_less : (p : ℕ) → suc p - 1 ≡ p
one_less p = omega arith

pub shape_after : (n : Node) (ns : List Node) (pending : ℕ) → is_shaped (n ∷ ns) pending ≡ true
    → (may_stand pending n ≡ true) × (is_shaped ns (pending_after pending n) ≡ true)
shape_after (Tree family) ns zero e = (refl, e)
shape_after (Tree family) ns (suc p) e = absurd cc
shape_after (Split axis cut) ns zero e = absurd cc
shape_after (Split axis cut) ns (suc p) e =
    (after_some p (Split axis cut) refl, ap (is_shaped ns) (one_more p) ∙ e)
shape_after (Leaf cell) ns zero e = absurd cc
shape_after (Leaf cell) ns (suc p) e =
    (after_some p (Leaf cell) refl, ap (is_shaped ns) (one_less p) ∙ e)
shape_after (Unusable cell) ns zero e = absurd cc
shape_after (Unusable cell) ns (suc p) e =
    (after_some p (Unusable cell) refl, ap (is_shaped ns) (one_less p) ∙ e)

none_stands : (p : ℕ) → (if suc p == 0 then true else false) ≡ true → ⊥
none_stands p e = let some : (suc p == 0) ≡ false = grind (arith, nat_tests) in
    cc (sym e ∙ ap (λ t. if t then true else false) some)

shape_before : (n : Node) (ns : List Node) (pending : ℕ) → may_stand pending n ≡ true
    → is_shaped ns (pending_after pending n) ≡ true → is_shaped (n ∷ ns) pending ≡ true
shape_before (Tree family) ns zero h e = e
shape_before (Tree family) ns (suc p) h e = absurd (none_stands p h)
shape_before (Split axis cut) ns zero h e = absurd cc
shape_before (Split axis cut) ns (suc p) h e = ap (is_shaped ns) (sym (one_more p)) ∙ e
shape_before (Leaf cell) ns zero h e = absurd cc
shape_before (Leaf cell) ns (suc p) h e = ap (is_shaped ns) (sym (one_less p)) ∙ e
shape_before (Unusable cell) ns zero h e = absurd cc
shape_before (Unusable cell) ns (suc p) h e = ap (is_shaped ns) (sym (one_less p)) ∙ e

counts : Node → ℕ
counts n = cond (is_node n) 1 0

value_is : (n : Node) → counts n ≡ node_value n
unfolding counts
value_is (Tree family) = refl
value_is (Split axis cut) = refl
value_is (Leaf cell) = refl
value_is (Unusable cell) = refl

count_more : (n : Node) (ns : List Node) → node_count (n ∷ ns) ≡ node_value n + node_count ns
unfolding counts
count_more n ns = sum_by-cons (λ x. cond (is_node x) 1 0) n ns
    ∙ ap (λ k. k + node_count ns) (value_is n)

-- a forest as its lines say it
pub record IsForest (nodes pending : ℕ) (ls : Lines) (p : List Node × Lines) : Type 0 where
  pub entries : AreEntries p.0
  pub shape : is_shaped p.0 pending ≡ true
  pub few : nodes + node_count p.0 ≤ 2000000
  pub same : ls ≡ map line_of (forest_words p.0) ++ p.1

Found : Type 0
Found = List Node × Lines

if_ok : {A : Type 0} (t : Bool) (fault : JobFault) (r : Result A JobFault) (y : A)
    → (if t then Err fault else r) ≡ Ok y → (t ≡ false) × (r ≡ Ok y)
if_ok true fault r y e = absurd cc
if_ok false fault r y e = (refl, e)

entry_of_ok : (n : Node) (r : Result (List Node × Lines) JobFault) (p : List Node × Lines)
    → with_entry n r ≡ Ok p
    → (q : List Node × Lines) × (r ≡ Ok q) × ((n ∷ q.0, q.1) ≡ p)
entry_of_ok n (Err fault) p e = absurd cc
entry_of_ok n (Ok q) p e = (q, refl, inside_ok (n ∷ q.0, q.1) p e)

entered_ok : (number : ℕ) (o : Option Node) (more : Node → Result (List Node × Lines) JobFault)
    (p : List Node × Lines) → entered number o more ≡ Ok p
    → (n : Node) × (o ≡ Some n) × (with_entry n (more n) ≡ Ok p)
entered_ok number None more p e = absurd cc
entered_ok number (Some n) more p e = (n, refl, e)

pub both : (a b : Bool) → (a && b) ≡ true → (a ≡ true) × (b ≡ true)
both true b e = (refl, e)
both false b e = absurd cc

is_zero : (n : ℕ) → (n == 0) ≡ true → n ≡ 0
is_zero n e = grind (arith, nat_tests)

at_end : (nodes pending : ℕ) (line : List ℕ) (rest : Lines) (p : List Node × Lines)
    → nodes ≤ 2000000 → is_end pending line ≡ true → ([], rest) ≡ p
    → IsForest nodes pending (line ∷ rest) p
at_end nodes pending line rest p few e is =
    let two = both (pending == 0) (bytes_eq line (codes "end")) e in
    subst (λ q. IsForest nodes pending (line ∷ rest) q) is record {
      entries = tt;
      shape = ap (is_shaped []) (is_zero pending two.0);
      few = omega arith;
      same = ap (λ x. x ∷ rest) (same_word line (codes "end") two.1);
    }

step_by : (number nodes pending : ℕ) (line : List ℕ) (rest : Lines) (p : List Node × Lines)
    (go : Node → Result (List Node × Lines) JobFault) (t : Bool) → nodes ≤ 2000000
    → ((n : Node) (q : List Node × Lines) → nodes + node_value n ≤ 2000000 → go n ≡ Ok q
    → IsForest (nodes + node_value n) (pending_after pending n) rest q)
    → is_end pending line ≡ t → is_over nodes line ≡ false
    → (if t then Ok ([], rest) else entered number (standing pending (entry_in (words line))) go)
    ≡ Ok p → IsForest nodes pending (line ∷ rest) p
step_by number nodes pending line rest p go true few below stop over is =
    at_end nodes pending line rest p few stop (inside_ok ([], rest) p is)
step_by number nodes pending line rest p go false few below stop over is =
    let entry = entered_ok number (standing pending (entry_in (words line))) go p is in
    let tail = entry_of_ok entry.0 (go entry.0) p entry.2 in
    let found = standing_found pending line entry.0 entry.1 in
    let fewer =
    few_more nodes (node_value entry.0) line entry.0 refl over
    (node_line pending line entry.0 entry.1) few in
    let more = below entry.0 tail.0 fewer tail.1 in
    subst (λ q. IsForest nodes pending (line ∷ rest) q) tail.2 record {
      entries = (found.0, more.entries);
      shape = shape_before entry.0 tail.0.0 pending found.2 more.shape;
      few = omega (arith, count_more entry.0 tail.0.0, more.few);
      same = ap (λ x. x ∷ rest) found.1 ∙ ap (λ x. line_of (entry_words entry.0) ∷ x) more.same;
    }

pub forest_found : (number nodes pending : ℕ) (ls : Lines) (p : List Node × Lines) → nodes ≤ 2000000
    → forest_at number nodes pending ls ≡ Ok p → IsForest nodes pending ls p
unfolding entry_step
forest_found number nodes pending [] p few e = absurd cc
forest_found number nodes pending (line ∷ []) p few e = absurd cc
forest_found number nodes pending (line ∷ next ∷ more) p few e =
    let over = if_ok (is_over nodes line) (TooManyNodes number) _ p e in
    step_by number nodes pending line (next ∷ more) p
    (λ n. forest_at (number + 1) (nodes + node_value n) (pending_after pending n) (next ∷ more))
    (is_end pending line) few
    (λ n q fewer is. forest_found (number + 1) (nodes + node_value n) (pending_after pending n)
    (next ∷ more) q fewer is) refl over.0 over.1

-- the line of an entry is not the last one
no_end : (pending : ℕ) (n : Node) → is_end pending (line_of (entry_words n)) ≡ false
no_end pending n = ap (λ t. pending == 0 && t) (other n) ∙ never (pending == 0)
  where
    never : (t : Bool) → (t && false) ≡ false
    never true = refl
    never false = refl

    other : (n : Node) → bytes_eq (line_of (entry_words n)) (codes "end") ≡ false
    other (Tree family) = refl
    other (Split axis cut) = refl
    other (Leaf cell) = refl
    other (Unusable cell) = refl

not_over : (nodes : ℕ) (n : Node) → nodes + node_value n ≤ 2000000
    → is_over nodes (line_of (entry_words n)) ≡ false
not_over nodes n h = ap (λ t. t && nat_le most_nodes nodes) (node_line_of n) ∙ below (is_node n) refl
  where
    below : (t : Bool) → is_node n ≡ t → (t && nat_le most_nodes nodes) ≡ false
    below false e = refl
    below true e = let one : node_value n ≡ 1 = rw e refl in let less : nodes < 2000000 =
        omega arith in grind (arith, nat_tests)

stands_again : (pending : ℕ) (n : Node) → IsEntry n → may_stand pending n ≡ true
    → is_written (entry_words n) ≡ true
    → standing pending (entry_in (words (line_of (entry_words n)))) ≡ Some n
unfolding standing
stands_again pending n h stands plain =
    ap (λ ws. standing pending (entry_in ws)) (words_are (entry_words n) plain)
    ∙ (ap (standing pending) (entry_again n h) ∙ rw stands refl)

lines_some : (ns : List Node) (rest : Lines) → 0 < length (map line_of (forest_words ns) ++ rest)
lines_some [] rest = omega arith
lines_some (n ∷ ns) rest = omega arith

shaped_end : (pending : ℕ) → is_shaped [] pending ≡ true → pending ≡ 0
shaped_end zero e = refl
shaped_end (suc p) e = absurd cc

end_line : (pending : ℕ) → pending ≡ 0 → is_end pending (codes "end") ≡ true
end_line pending e = rw e refl

pub forest_again : (number nodes pending : ℕ) (ns : List Node) (rest : Lines) → 0 < length rest
    → AreEntries ns → list_all (λ n. is_written (entry_words n)) ns ≡ true
    → is_shaped ns pending ≡ true → nodes + node_count ns ≤ 2000000
    → forest_at number nodes pending (map line_of (forest_words ns) ++ rest) ≡ Ok (ns, rest)
forest_again number nodes pending [] rest some h plain shape few =
    end_is number nodes pending (codes "end" ∷ rest) rest (codes "end")
    (ended_is (codes "end") rest some) refl (end_line pending (shaped_end pending shape))
forest_again number nodes pending (n ∷ ns) rest some h plain shape few =
    let now = shape_after n ns pending shape in
    let written =
    both (is_written (entry_words n)) (list_all (λ m. is_written (entry_words m)) ns) plain in
    let count = count_more n ns in
    let after : Lines = map line_of (forest_words ns) ++ rest in
    let more =
    forest_again (number + 1) (nodes + node_value n) (pending_after pending n) ns rest some h.1
    written.1 now.1 (omega (arith, count, few)) in
    entry_is number nodes pending (line_of (entry_words n) ∷ after) after (line_of (entry_words n))
    n (ended_is (line_of (entry_words n)) after (lines_some ns rest))
    (not_over nodes n (omega (arith, count, few))) (no_end pending n)
    (stands_again pending n h.0 now.0 written.0)
    ∙ ap (with_entry n) more
