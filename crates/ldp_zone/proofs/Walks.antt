-- The walk along the edges is the even-odd rule.
use Rattle.std.proofs.Common.{◌≡◌, ℕ, ◌+◌, ◌%◌, ◌==◌, Bool, true, false, ◌||◌, ℤ, List, [], ◌∷◌}
use Rattle.std.proofs.Common.{◌++◌, count_by, ◌<◌, length, drop, slice_index_or, arith, refl, ap}
use Rattle.std.proofs.Common.{sym, ◌∙◌}
use Rattle.std.specs.List.{list_any}
use Rattle.std.proofs.lemmas.Bool.Decides.{nat_tests}
use Rattle.std.proofs.lemmas.List.Sums.{sum_by-cons}
use Rattle.std.proofs.lemmas.List.{at_drop_more}
use Rattle.ldp_zone.specs.Inside.{edges, ring_edges, crosses, on_edge, inside_of, inside}
use Rattle.ldp_zone.specs.Walk.{flip, walk, is_inside}
use Rattle.ldp_zone.specs.declared.point.Point.{Point}
use Rattle.ldp_zone.specs.declared.edge.Edge.{Edge}
use Rattle.ldp_zone.specs.declared.walked.Walked.{Walked}
use Rattle.ldp_zone.specs.declared.walked.Walked.TheVariants.{OnEdge, Crossing}

-- an odd number, or an even one that is counted on
abbrev odd_of : Bool → ℕ → Bool
odd_of odd n = flip (n % 2 == 1) odd

odd_more : (n : ℕ) → ((1 + n) % 2 == 1) ≡ flip true (n % 2 == 1)
odd_more n = grind (arith, nat_tests)

flip_first : (a b : Bool) → flip a (flip true b) ≡ flip (flip true a) b
flip_first true true = refl
flip_first true false = refl
flip_first false true = refl
flip_first false false = refl

count_yes : (at : Point) (edge : Edge) (rest : List Edge) → crosses at edge ≡ true
    → count_by (crosses at) (edge ∷ rest) ≡ 1 + count_by (crosses at) rest
count_yes at edge rest e = rw (sum_by-cons, e) refl

count_no : (at : Point) (edge : Edge) (rest : List Edge) → crosses at edge ≡ false
    → count_by (crosses at) (edge ∷ rest) ≡ count_by (crosses at) rest
count_no at edge rest e =
    let none : (n : ℕ) → 0 + n ≡ n = λ n. omega arith in
    rw (sum_by-cons, e) (none (count_by (crosses at) rest))

odd_by : (at : Point) (odd : Bool) (edge : Edge) (rest : List Edge) (over : Bool)
    → crosses at edge ≡ over
    → odd_of odd (count_by (crosses at) (edge ∷ rest))
    ≡ odd_of (flip over odd) (count_by (crosses at) rest)
odd_by at odd edge rest true c =
    let n = count_by (crosses at) rest in
    ap (odd_of odd) (count_yes at edge rest c) ∙ ap (λ b. flip b odd) (odd_more n)
    ∙ sym (flip_first (n % 2 == 1) odd)
odd_by at odd edge rest false c = ap (odd_of odd) (count_no at edge rest c)

any_on : (at : Point) (edge : Edge) (rest : List Edge) → on_edge at edge ≡ false
    → list_any (on_edge at) (edge ∷ rest) ≡ list_any (on_edge at) rest
any_on at edge rest e = rw e refl

walk_on : (at : Point) (odd : Bool) (edge : Edge) (rest : List Edge) → on_edge at edge ≡ false
    → walk at odd (edge ∷ rest) ≡ walk at (flip (crosses at edge) odd) rest
walk_on at odd edge rest e = rw e refl

-- the rule, after an even or odd number of edges before
abbrev rule : Point → Bool → List Edge → Bool
rule at odd list = list_any (on_edge at) list || odd_of odd (count_by (crosses at) list)

rule_on : (at : Point) (odd : Bool) (edge : Edge) (rest : List Edge) → on_edge at edge ≡ false
    → rule at (flip (crosses at edge) odd) rest ≡ rule at odd (edge ∷ rest)
rule_on at odd edge rest e =
    ap (λ b. list_any (on_edge at) rest || b) (sym (odd_by at odd edge rest (crosses at edge) refl))
    ∙ ap (λ b. b || odd_of odd (count_by (crosses at) (edge ∷ rest))) (sym (any_on at edge rest e))

rule_by : (at : Point) (odd : Bool) (edge : Edge) (rest : List Edge) (on : Bool)
    → on_edge at edge ≡ on
    → is_inside (walk at (flip (crosses at edge) odd) rest)
    ≡ rule at (flip (crosses at edge) odd) rest
    → is_inside (walk at odd (edge ∷ rest)) ≡ rule at odd (edge ∷ rest)
rule_by at odd edge rest true e h = rw e refl
rule_by at odd edge rest false e h =
    ap is_inside (walk_on at odd edge rest e) ∙ h ∙ rule_on at odd edge rest e

walk_rule : (at : Point) (odd : Bool) (list : List Edge)
    → is_inside (walk at odd list) ≡ rule at odd list
walk_rule at true [] = refl
walk_rule at false [] = refl
walk_rule at odd (edge ∷ rest) =
    rule_by at odd edge rest (on_edge at edge) refl (walk_rule at (flip (crosses at edge) odd) rest)

flip_false : (b : Bool) → flip b false ≡ b
flip_false true = refl
flip_false false = refl

pub inside_walk : (rings : List (List Point)) (x y : ℤ)
    → inside rings x y ≡ is_inside (walk record { x = x; y = y } false (edges rings))
unfolding inside inside_of
inside_walk rings x y =
    let at : Point = record { x = x; y = y } in
    ap (λ b. list_any (on_edge at) (edges rings) || b)
    (sym (flip_false (count_by (crosses at) (edges rings) % 2 == 1)))
    ∙ sym (walk_rule at false (edges rings))

-- the walk along two lists, one after the other
abbrev walk_on_from : Point → List Edge → Walked → Walked
walk_on_from at rest OnEdge = OnEdge
walk_on_from at rest (Crossing odd) = walk at odd rest

walk_by : (at : Point) (odd : Bool) (edge : Edge) (front rest : List Edge) (on : Bool)
    → on_edge at edge ≡ on
    → walk at (flip (crosses at edge) odd) (front ++ rest)
    ≡ walk_on_from at rest (walk at (flip (crosses at edge) odd) front)
    → walk at odd (edge ∷ front ++ rest) ≡ walk_on_from at rest (walk at odd (edge ∷ front))
walk_by at odd edge front rest true e h = rw e refl
walk_by at odd edge front rest false e h = rw e h

walk_append : (at : Point) (odd : Bool) (front rest : List Edge)
    → walk at odd (front ++ rest) ≡ walk_on_from at rest (walk at odd front)
walk_append at odd [] rest = refl
walk_append at odd (edge ∷ front) rest =
    walk_by at odd edge front rest (on_edge at edge) refl
    (walk_append at (flip (crosses at edge) odd) front rest)

-- one ring more
pub ring_passed : (at : Point) (odd more : Bool) (ring : List Point) (rings : List (List Point))
    → walk at odd (ring_edges ring) ≡ Crossing more
    → walk at odd (edges (ring ∷ rings)) ≡ walk at more (edges rings)
ring_passed at odd more ring rings e = walk_append at odd (ring_edges ring) (edges rings)
    ∙ rw e refl

ring_stops : (at : Point) (odd : Bool) (ring : List Point) (rings : List (List Point))
    → walk at odd (ring_edges ring) ≡ OnEdge → walk at odd (edges (ring ∷ rings)) ≡ OnEdge
ring_stops at odd ring rings e = walk_append at odd (ring_edges ring) (edges rings) ∙ rw e refl

-- the ring at an index, and those behind it
pub ring_step : (at : Point) (odd more : Bool) (rings : List (List Point)) (index : ℕ)
    (ring : List Point) → index < length rings
    → ring ≡ slice_index_or rings index ring → walk at odd (ring_edges ring) ≡ Crossing more
    → walk at more (edges (drop (index + 1) rings)) ≡ walk at odd (edges (drop index rings))
ring_step at odd more rings index ring h is e =
    let rest = drop (index + 1) rings in
    sym (ring_passed at odd more ring rest e)
    ∙ ap (λ (r : List Point). walk at odd (edges (r ∷ rest))) is
    ∙ sym (at_drop_more (λ (rs : List (List Point)). walk at odd (edges rs)) rings index ring h)

pub ring_ends : (at : Point) (odd : Bool) (rings : List (List Point)) (index : ℕ)
    (ring : List Point) → index < length rings
    → ring ≡ slice_index_or rings index ring → walk at odd (ring_edges ring) ≡ OnEdge
    → OnEdge ≡ walk at odd (edges (drop index rings))
ring_ends at odd rings index ring h is e =
    let rest = drop (index + 1) rings in
    sym (ring_stops at odd ring rest e)
    ∙ ap (λ (r : List Point). walk at odd (edges (r ∷ rest))) is
    ∙ sym (at_drop_more (λ (rs : List (List Point)). walk at odd (edges rs)) rings index ring h)
