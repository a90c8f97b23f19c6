-- A run in twins over a hull bounds the least absolute distortion at each cell.
use Rattle.std.proofs.Common.{◌≡◌, ◌≤◌, ℕ, ℤ, pos, ◌≤ℤ◌, List, [], ◌∷◌, ◌++◌, map, arith, sym, ap}
use Rattle.std.proofs.Common.{◌∙◌}
use Rattle.std.proofs.lemmas.Int.{ints, clamps}
use Rattle.std.proofs.lemmas.Option.{option_and_then_some}
use Rattle.std.specs.Prelude.{Option, Some, option_and_then, unsigned_abs}
use Rattle.ldp_num.specs.Twins.{TwinPair}
use Rattle.ldp_num.specs.Written.{range_ops, twin_ops}
use Rattle.ldp_num.specs.StepList.{value_in, first_result}
use Rattle.ldp_range.specs.Range.{LiesIn, pair_low_abs}
use Rattle.ldp_range.specs.Related.{Pairwise, Reaches}
use Rattle.ldp_range.specs.Twin.{IsHeld, twin_most, twin_fewest}
use Rattle.ldp_range.proofs.Held.{twin-inclusion}
use Rattle.ldp_range.proofs.Bounds.{most, fewest, numbers}
use Rattle.ldp_range.proofs.Ends.{least-natural}
use Rattle.ldp_distortion.specs.Distortion.{joined_in}
use Rattle.ldp_distortion.specs.Prepared.{PreparedCells, joined_at}
use Rattle.ldp_sweep.specs.declared.stretch.Stretch.{Stretch}
use Rattle.ldp_sweep.specs.declared.enclosure.Enclosure.{Enclosure}
use Rattle.ldp_stretch.specs.Hulls.{HoldsRows}
use Rattle.ldp_stretch.specs.Spans.{IsSpanned, SpansNode}
use Rattle.ldp_stretch.specs.Twins.{hull_twins}
use Rattle.ldp_stretch.proofs.Lists.{pairwise_appended, first_related}

-- the twins of a hull stand for the numbers in it
hull_held : (row : List ℤ) (hull : List (ℤ × ℤ)) → Pairwise LiesIn row hull
    → Pairwise IsHeld (map range_ops.constant row) (hull_twins hull)
hull_held [] [] h = tt
hull_held [] (r ∷ hull) h = absurd h
hull_held (n ∷ row) [] h = absurd h
hull_held (n ∷ row) (r ∷ hull) h = (numbers n r h.0, hull_held row hull h.1)

-- the range of the distortion at a cell whose results lie in the hull
range_held : (p : PreparedCells) (design : List (ℤ × ℤ)) (twins : List TwinPair) (row : List ℤ)
    (hull : List (ℤ × ℤ)) (t : TwinPair) → Pairwise IsHeld design twins → Pairwise LiesIn row hull
    → first_result (value_in twin_ops p.lists.joint (twins ++ hull_twins hull)) ≡ Some t
    → Reaches IsHeld (joined_in range_ops p.lists (Some design) (Some row)) t
unfolding joined_in
range_held p design twins row hull t front back e =
    option_and_then_some _ (value_in twin_ops p.lists.joint (twins ++ hull_twins hull)) t e
    (λ found value first.
    let both = pairwise_appended IsHeld design (map range_ops.constant row) twins (hull_twins hull)
    front (hull_held row hull back) in
    let joint = twin-inclusion p.lists.joint (design ++ map range_ops.constant row)
    (twins ++ hull_twins hull) found both value in
    rw joint.is (first_related IsHeld joint.value found t joint.related first))

natural-fewest : (t : TwinPair) → pos 0 ≤ℤ twin_fewest t
natural-fewest t = omega (arith, ints, clamps)

between-low : (least end : ℤ) (low : ℕ) → end ≤ℤ least → pos 0 ≤ℤ least → pos 0 ≤ℤ end
    → low ≡ unsigned_abs end → low ≤ unsigned_abs least
between-low least end low h k l e = omega (arith, ints)

between-high : (least end : ℤ) (high : ℕ) → least ≤ℤ end → pos 0 ≤ℤ least
    → high ≡ unsigned_abs end → unsigned_abs least ≤ high
between-high least end high h k e = omega (arith, ints)

-- the span of a twin
twin_spans : (range : ℤ × ℤ) (t : TwinPair) (found : Option (ℤ × ℤ)) (span : Enclosure)
    → IsHeld range t → found ≡ Some range → span.low ≡ unsigned_abs (twin_fewest t)
    → span.high ≡ unsigned_abs (twin_most t) → IsSpanned found span
twin_spans range t found span held is low high = record {
  range = range;
  is = is;
  low = between-low (pair_low_abs range) (twin_fewest t) span.low (fewest range t held)
      (least-natural range) (natural-fewest t) low;
  high = between-high (pair_low_abs range) (twin_most t) span.high (most range t held)
      (least-natural range) high;
}

pub node_spanned : (p : PreparedCells) (twins : List TwinPair) (hull : List (ℤ × ℤ)) (node : Stretch)
    (t : TwinPair) (span : Enclosure) → HoldsRows p.results node hull
    → Some t ≡ first_result (value_in twin_ops p.lists.joint (twins ++ hull_twins hull))
    → span.low ≡ unsigned_abs (twin_fewest t) → span.high ≡ unsigned_abs (twin_most t)
    → SpansNode p twins node span
node_spanned p twins hull node t span holds e low high design cell front from to =
    let row = holds cell from to in
    let reached = range_held p design twins row.row hull t front row.lies (sym e) in
    twin_spans reached.value t (joined_at range_ops p design cell) span reached.related
    (ap (option_and_then (joined_in range_ops p.lists (Some design))) row.is ∙ reached.is) low high
