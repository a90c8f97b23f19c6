-- What a design and a cell give where they have the first parallel's latitude in common.
use Rattle.std.proofs.Common.{◌≡◌, ℕ, zero, suc, ◌<◌, ℤ, pos, List, [], ◌∷◌, ◌++◌, map, length}
use Rattle.std.proofs.Common.{get_or, refl, sym, ap, subst, ◌∙◌, arith, append-nil}
use Rattle.std.proofs.lemmas.Option.{same_Some, option_and_then_some, slice_get-get_or}
use Rattle.std.specs.Prelude.{Option, Some, None, option_and_then, option_map, slice_get}
use Rattle.ldp_num.specs.declared.step.Step.{Step}
use Rattle.ldp_num.specs.Number.{one}
use Rattle.ldp_num.specs.Plain.{plain_add, plain_div, plain_sqrt}
use Rattle.ldp_num.specs.Written.{number_ops}
use Rattle.ldp_num.specs.Steps.{results_of, results_from}
use Rattle.ldp_ellipsoid.specs.Ellipsoid.{axis_ratio, ground_factor}
use Rattle.ldp_series.specs.Formula.{◌>>=◌}
use Rattle.ldp_series.specs.StepList.{StepList, value, at_places, input_steps}
use Rattle.ldp_lambert.specs.Lambert.{cell_list}
use Rattle.ldp_lambert2.specs.LambertTwo.{design_list}
use Rattle.ldp_lambert2.proofs.Groups.{moved, group_from, Matches, group-run, run-appends}
use Rattle.ldp_lambert2.proofs.Groups.{group-length, get-behind, get-in_front}
use Rattle.ldp_lambert2.proofs.Joint.{inputs}
use Rattle.ldp_lambert2.proofs.Parallel.{parallel_steps, ground_steps, design_rest, in_design}
use Rattle.ldp_lambert2.proofs.Parallel.{in_cell, ground_place}
use Rattle.ldp_lambert2.proofs.Parallel.{parallel-is, ground-operations, design-is, cell-is}
use Rattle.ldp_lambert2.proofs.Quotients.{plus-zero, over-itself}

-- the results of the ground factor's steps: 1, e², 1 - e², its root, the radius, the radius and the
-- height, and the factor
abbrev with_factor : ℤ → ℤ → ℤ → ℤ → Option (List ℤ)
with_factor root radius sum factor =
    Some (pos one ∷ pos 6694380022900 ∷ pos 993305619977100 ∷ root ∷ radius ∷ sum ∷ factor ∷ [])

abbrev with_sum : ℤ → ℤ → ℤ → Option (List ℤ)
with_sum root radius sum = option_and_then (with_factor root radius sum) (plain_div radius sum)

abbrev with_radius : ℤ → ℤ → Option (List ℤ)
with_radius root radius = option_and_then (with_sum root radius) (plain_add radius (pos 0))

abbrev with_root : ℤ → ℤ → Option (List ℤ)
with_root w root = option_and_then (with_radius root) (plain_div root w)

abbrev ground_results : ℤ → Option (List ℤ)
ground_results w = option_and_then (with_root w) (plain_sqrt (pos 993305619977100))

ground-run : (w : ℤ) → group_from number_ops (w ∷ pos 0 ∷ []) [] ground_steps ≡ ground_results w
unfolding ground_steps axis_ratio ground_factor ◌>>=◌
ground-run w = refl

-- R / (R + h) is 1 where the height is 0
ground-one : (w : ℤ) (new : List ℤ)
    → group_from number_ops (w ∷ pos 0 ∷ []) [] ground_steps ≡ Some new
    → slice_get new 6 ≡ Some (pos one)
ground-one w new h =
    let h0 : ground_results w ≡ Some new = sym (ground-run w) ∙ h in
    option_and_then_some (with_root w) (plain_sqrt (pos 993305619977100)) new h0
    (λ root is_root h1. option_and_then_some (with_radius root) (plain_div root w) new h1
    (λ radius is_radius h2.
    option_and_then_some (with_sum root radius) (plain_add radius (pos 0)) new h2
    (λ sum is_sum h3.
    option_and_then_some (with_factor root radius sum) (plain_div radius sum) new h3
    (λ factor is_factor h4.
    let same : sum ≡ radius = plus-zero radius sum is_sum in
    let is : plain_div radius radius ≡ Some factor =
    subst (λ (z : ℤ). plain_div radius z ≡ Some factor) same is_factor in
    ap (λ (xs : List ℤ). slice_get xs 6) (sym (same_Some _ new h4))
    ∙ ap Some (over-itself radius factor is)))))

-- the first of the results at some places
pub at-first : (xs : List ℤ) (place : ℕ) (places : List ℕ) (found : List ℤ)
    → at_places xs (place ∷ places) ≡ Some found
    → (v : ℤ) × (tail : List ℤ) × (slice_get xs place ≡ Some v)
    × (at_places xs places ≡ Some tail) × (found ≡ v ∷ tail)
at-first xs place places found h =
    option_and_then_some _ _ _ h (λ v is k. by_tail v is (at_places xs places) refl k) where
      by_tail : (v : ℤ) → slice_get xs place ≡ Some v → (o : Option (List ℤ))
          → at_places xs places ≡ o
          → option_map (λ tail. v ∷ tail) o ≡ Some found
          → (v : ℤ) × (tail : List ℤ) × (slice_get xs place ≡ Some v)
          × (at_places xs places ≡ Some tail) × (found ≡ v ∷ tail)
      by_tail v is None e k = cc
      by_tail v is (Some tail) e k = (v, tail, is, e, sym (same_Some _ _ k))

-- a result of the parallel's group
abbrev pub at : List ℤ → ℕ → ℤ
at new k = get_or new k (pos 0)

got : (new more : List ℤ) (k : ℕ) → k < length new → slice_get (new ++ more) k ≡ Some (at new k)
got new more k h = get-in_front new more k h ∙ slice_get-get_or new k (pos 0) h

new-length : (x : ℤ) (new : List ℤ) → group_from number_ops (x ∷ []) [] parallel_steps ≡ Some new
    → length new ≡ 245
new-length x new h =
    let e = group-length number_ops (x ∷ []) [] parallel_steps new h in
    let k = parallel-is.0 in omega (arith, e, k)

-- the value of a list with these steps and places of its results
abbrev value_of : List ℕ → List ℤ → List Step → Option (List ℤ)
value_of outs inputs steps =
    option_and_then (λ results. at_places results outs) (results_of number_ops inputs steps)

value-is : (list : StepList) (outs : List ℕ) (steps : List Step) (inputs : List ℤ)
    → list.steps ≡ steps → list.outs ≡ outs → value list inputs ≡ value_of outs inputs steps
value-is list outs steps inputs h k =
    ap (λ (ss : List Step). value_of list.outs inputs ss) h ∙ ap (λ os. value_of os inputs steps) k

in_design-matches : (x l y k : ℤ) → Matches in_design (x ∷ l ∷ y ∷ k ∷ []) (x ∷ [])
in_design-matches x l y k done zero = refl
in_design-matches x l y k done (suc p) = refl

in_cell-matches : (x l h : ℤ) → Matches in_cell (x ∷ l ∷ h ∷ []) (x ∷ [])
in_cell-matches x l h done zero = refl
in_cell-matches x l h done (suc p) = refl

four-are : (all t1 t2 t3 t4 : List ℤ) (a b c d b' c' d' : ℤ)
    → all ≡ a ∷ t1 → t1 ≡ b ∷ t2 → t2 ≡ c ∷ t3
    → t3 ≡ d ∷ t4 → t4 ≡ [] → b ≡ b' → c ≡ c' → d ≡ d' → all ≡ a ∷ b' ∷ c' ∷ d' ∷ []
four-are all t1 t2 t3 t4 a b c d b' c' d' h1 h2 h3 h4 none e2 e3 e4 =
    rw (h1, h2, h3, h4, none, e2, e3, e4) refl

-- what a design gives: some n, and q1, m1 and k0
pub design-values : (x l y k : ℤ) (design : List ℤ)
    → value design_list (x ∷ l ∷ y ∷ k ∷ []) ≡ Some design
    → (new : List ℤ) × (n : ℤ) × (group_from number_ops (x ∷ []) [] parallel_steps ≡ Some new)
    × (design ≡ n ∷ at new 244 ∷ at new 141 ∷ k ∷ [])
design-values x l y k design h =
    let inputs : List ℤ = x ∷ l ∷ y ∷ k ∷ [] in
    let outs : List ℕ = 541 ∷ 248 ∷ 145 ∷ 3 ∷ [] in
    let steps : List Step =
    input_steps 4 ++ (map (moved in_design) parallel_steps ++ design_rest) in
    option_and_then_some (λ results. at_places results outs) (results_of number_ops inputs steps)
    design
    (sym (value-is design_list outs steps inputs design-is.0 design-is.1) ∙ h)
    (λ out run found. option_and_then_some
    (λ new. results_from number_ops inputs (inputs ++ new) design_rest)
    (group_from number_ops (x ∷ []) [] parallel_steps) out
    (sym (group-run number_ops inputs inputs (x ∷ []) in_design parallel_steps design_rest []
    (in_design-matches x l y k) parallel-is.1) ∙ run)
    (λ new is_new ran.
    let long : length new ≡ 245 = new-length x new is_new in
    let end = run-appends number_ops inputs (inputs ++ new) design_rest out ran in
    let all : List ℤ = (inputs ++ new) ++ end.0 in
    let h1 = at-first all 541 (248 ∷ 145 ∷ 3 ∷ []) design
    (subst (λ (r : List ℤ). at_places r outs ≡ Some design) end.1 found) in
    let h2 = at-first all 248 (145 ∷ 3 ∷ []) h1.1 h1.3 in
    let h3 = at-first all 145 (3 ∷ []) h2.1 h2.3 in
    let h4 = at-first all 3 [] h3.1 h3.3 in
    let q_is : h2.0 ≡ at new 244 = same_Some _ _ (sym h2.2 ∙ got new end.0 244 (omega arith)) in
    let m_is : h3.0 ≡ at new 141 = same_Some _ _ (sym h3.2 ∙ got new end.0 141 (omega arith)) in
    let k_is : h4.0 ≡ k = same_Some _ _ (sym h4.2) in
    let none : h4.1 ≡ [] = same_Some _ _ (sym h4.3) in (
      new,
      h1.0,
      is_new,
      four-are design h1.1 h2.1 h3.1 h4.1 h1.0 h2.0 h3.0 h4.0 _ _ _
          h1.4 h2.4 h3.4 h4.4 none q_is m_is k_is,
    )))

ground_place-matches : (x l : ℤ) (new : List ℤ) → length new ≡ 245
    → Matches ground_place ((x ∷ l ∷ pos 0 ∷ []) ++ new) (at new 139 ∷ pos 0 ∷ [])
ground_place-matches x l new long done zero = got new done 139 (omega arith)
ground_place-matches x l new long done (suc zero) = refl
ground_place-matches x l new long done (suc (suc p)) = get-behind new done 245 p long

-- what a cell of height 0 gives: m, q and 1
pub cell-values : (x l : ℤ) (cell : List ℤ) → value cell_list (x ∷ l ∷ pos 0 ∷ []) ≡ Some cell
    → (new : List ℤ) × (group_from number_ops (x ∷ []) [] parallel_steps ≡ Some new)
    × (cell ≡ at new 141 ∷ at new 244 ∷ pos one ∷ [])
cell-values x l cell h =
    let inputs : List ℤ = x ∷ l ∷ pos 0 ∷ [] in
    let outs : List ℕ = 144 ∷ 247 ∷ 254 ∷ [] in
    let last_steps : List Step = map (moved ground_place) ground_steps ++ [] in
    let steps : List Step = input_steps 3 ++ (map (moved in_cell) parallel_steps ++ last_steps) in
    option_and_then_some (λ results. at_places results outs) (results_of number_ops inputs steps)
    cell
    (sym (value-is cell_list outs steps inputs cell-is.0 cell-is.1) ∙ h)
    (λ out run found. option_and_then_some
    (λ new. results_from number_ops inputs (inputs ++ new) last_steps)
    (group_from number_ops (x ∷ []) [] parallel_steps) out
    (sym (group-run number_ops inputs inputs (x ∷ []) in_cell parallel_steps
    last_steps [] (in_cell-matches x l (pos 0)) parallel-is.1) ∙ run)
    (λ new is_new ran.
    let long : length new ≡ 245 = new-length x new is_new in
    option_and_then_some (λ last. results_from number_ops inputs ((inputs ++ new) ++ last) [])
    (group_from number_ops (at new 139 ∷ pos 0 ∷ []) [] ground_steps) out
    (sym (group-run number_ops inputs (inputs ++ new) (at new 139 ∷ pos 0 ∷ []) ground_place
    ground_steps [] [] (ground_place-matches x l new long) ground-operations)
    ∙ subst (λ (r : List ℤ). results_from number_ops inputs r last_steps ≡ Some out)
    (sym (append-nil (inputs ++ new))) ran)
    (λ last is_last ended.
    let out_is : out ≡ (inputs ++ new) ++ last = sym (same_Some _ _ ended) in
    let all : List ℤ = (inputs ++ new) ++ last in
    let h1 = at-first all 144 (247 ∷ 254 ∷ []) cell
    (subst (λ (r : List ℤ). at_places r outs ≡ Some cell) out_is found) in
    let h2 = at-first all 247 (254 ∷ []) h1.1 h1.3 in
    let h3 = at-first all 254 [] h2.1 h2.3 in
    let m_is : h1.0 ≡ at new 141 = same_Some _ _ (sym h1.2 ∙ got new last 141 (omega arith)) in
    let q_is : h2.0 ≡ at new 244 = same_Some _ _ (sym h2.2 ∙ got new last 244 (omega arith)) in
    let factor_is : h3.0 ≡ pos one =
    same_Some _ _
    (sym h3.2 ∙ get-behind new last 245 6 long ∙ ground-one (at new 139) last is_last) in
    let none : h3.1 ≡ [] = same_Some _ _ (sym h3.3) in
    (new, is_new, rw (h1.4, h2.4, h3.4, m_is, q_is, factor_is, none) refl))))

-- so the inputs of the joint list have the same m and q twice
pub joint-inputs : (design cell new other : List ℤ) (n : ℤ)
    → design ≡ n ∷ at new 244 ∷ at new 141 ∷ pos one ∷ []
    → cell ≡ at other 141 ∷ at other 244 ∷ pos one ∷ [] → other ≡ new
    → design ++ cell ≡ inputs n (at new 244) (at new 141)
joint-inputs design cell new other n of_design of_cell same = rw (of_design, of_cell, same) refl
