-- The forest has fewer than twice as many nodes as there are designs.
use Rattle.std.proofs.Common.{◌≡◌, ◌≤◌, ◌+◌, ◌*◌, ℕ, zero, suc, List, [], ◌∷◌, length, Some, refl}
use Rattle.std.proofs.Common.{sym, ap, subst, ◌∙◌, inl, inr, arith}
use Rattle.std.proofs.lemmas.List.{length-append, length-map}
use Rattle.std.proofs.lemmas.List.FromFn.{length-range_with_len, length-enumerate_from}
use Rattle.std.specs.Prelude.{flat_map}
use Rattle.std.specs.List.{enumerate_from, range_with_len}
use Rattle.ldp_design.specs.declared.axis.AxisName.TheVariants.{Lat, Lon, Azimuth, Scale}
use Rattle.ldp_design.specs.declared.family.Family.{Family}
use Rattle.ldp_design.specs.Families.{AreGrids, family_of}
use Rattle.ldp_design.specs.Boxes.{size, LiesIn, IsBoxOf, whole_box}
use Rattle.ldp_design.specs.Forests.{node_count}
use Rattle.ldp_problem.specs.Problem.{Problem}
use Rattle.ldp_optimum.specs.Best.{least, all_designs, designs_of}
use Rattle.ldp_optimum.specs.Forest.{tree_of, family_tree, forest, needed}
use Rattle.ldp_optimum.proofs.Members.{Member, of_enumerate}
use Rattle.ldp_optimum.proofs.Trees.{trees_have_nodes}
use Rattle.ldp_optimum.proofs.Forests.{nodes_append, nodes_tree, numbered_whole}

-- lists of one length, one after another
joined_length : {A : Type 0} (f : ℕ → List A) (each : ℕ) → ((i : ℕ) → length (f i) ≡ each)
    → (a n : ℕ) → length (flat_map f (range_with_len a n)) ≡ n * each
joined_length f each same a zero = omega arith
joined_length f each same a (suc n) =
    length-append (f a) (flat_map f (range_with_len (a + 1) n))
    ∙ omega (arith, same a, joined_length f each same (a + 1) n)

-- the designs of a family
designs_count : (number : ℕ) (f : Family)
    → length (designs_of (number, f))
    ≡ f.lat.count * (f.lon.count * (f.azimuth.count * f.scale.count))
designs_count number f =
    joined_length _ (f.lon.count * (f.azimuth.count * f.scale.count))
    (λ lat. joined_length _ (f.azimuth.count * f.scale.count)
    (λ lon. joined_length _ f.scale.count
    (λ azimuth. length-map (range_with_len 0 f.scale.count)
    (λ scale. record { family = number; lat = lat; lon = lon; azimuth = azimuth; scale = scale })
    ∙ length-range_with_len 0 f.scale.count)
    0 f.azimuth.count)
    0 f.lon.count)
    0 f.lat.count

product : (a b c d h i j k : ℕ) → a ≡ h → b ≡ i → c ≡ j → d ≡ k → a * b * c * d ≡ h * (i * (j * k))
product a b c d h i j k e f g l = rw (e, f, g, l) (omega arith)

whole_size : (number : ℕ) (f : Family) → IsBoxOf f (whole_box number f)
    → size (whole_box number f) ≡ f.lat.count * (f.lon.count * (f.azimuth.count * f.scale.count))
unfolding size
whole_size number f h =
    product _ _ _ _ f.lat.count f.lon.count f.azimuth.count f.scale.count
    (omega (arith, h.within Lat)) (omega (arith, h.within Lon)) (omega (arith, h.within Azimuth))
    (omega (arith, h.within Scale))

-- a numbered family lies in it, and its whole has its designs
record IsNumbered (p : Problem) (q : ℕ × Family) : Type 0 where
  lies : LiesIn p.families (whole_box q.0 q.1)
  designs : size (whole_box q.0 q.1) ≡ length (designs_of q)

numbered_designs : (p : Problem) (q : ℕ × Family) → AreGrids p.families
    → Member q (enumerate_from 1 p.families) → IsNumbered p q
numbered_designs p q g m =
    let at = of_enumerate 1 q p.families m in
    let number : suc at.place ≡ q.0 = omega (arith, at.number) in
    let found : family_of p.families q.0 ≡ Some q.1 =
    subst (λ n. family_of p.families n ≡ Some q.1) number at.stands in
    let lies : LiesIn p.families (whole_box q.0 q.1) = (numbered_whole p q g m).lies in
    let same : lies.family ≡ q.1 = cc (found, lies.found) in
    record {
      lies = lies;
      designs =
          whole_size q.0 q.1 (subst (λ f. IsBoxOf f (whole_box q.0 q.1)) same lies.within)
          ∙ sym (designs_count q.0 q.1);
    }

trees_nodes : (p : Problem) (qs : List (ℕ × Family)) → AreGrids p.families
    → ((q : ℕ × Family) → Member q qs → IsNumbered p q)
    → (length qs ≤ node_count (flat_map (family_tree p) qs))
    × (node_count (flat_map (family_tree p) qs) + length qs ≤ 2 * length (flat_map designs_of qs))
trees_nodes p [] g h = (omega arith, omega arith)
trees_nodes p (q ∷ qs) g h =
    let first = h q (inl refl) in
    let tree = trees_have_nodes p (least p) (whole_box q.0 q.1) g first.lies in
    let others = trees_nodes p qs g (λ r m. h r (inr m)) in
    let nodes : node_count (flat_map (family_tree p) (q ∷ qs))
    ≡ node_count (tree_of p (least p) (whole_box q.0 q.1))
    + node_count (flat_map (family_tree p) qs) =
    nodes_append (family_tree p q) (flat_map (family_tree p) qs)
    ∙ ap (λ n. n + node_count (flat_map (family_tree p) qs))
    (nodes_tree q.0 (tree_of p (least p) (whole_box q.0 q.1))) in
    let designs = length-append (designs_of q) (flat_map designs_of qs) in (
      omega (arith, nodes, tree.0, others.0),
      omega (arith, nodes, tree.1, others.1, first.designs, designs),
    )

pub forest_has_nodes : (p : Problem) → AreGrids p.families
    → (length p.families ≤ needed p)
    × (needed p + length p.families ≤ 2 * length (all_designs p.families))
unfolding forest
forest_has_nodes p g =
    let both = trees_nodes p (enumerate_from 1 p.families) g (λ q m. numbered_designs p q g m) in
    let count : length (enumerate_from 1 p.families) ≡ length p.families =
    length-enumerate_from 1 p.families in
    (omega (arith, both.0, count), omega (arith, both.1, count))
