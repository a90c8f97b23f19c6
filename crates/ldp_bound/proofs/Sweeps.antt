-- What is told over the stretches of the cells.
use Rattle.std.proofs.Common.{◌≡◌, ◌≤◌, ◌<◌, ℕ, ℤ, pos, List, [], ◌∷◌, map, take, length, rules}
use Rattle.std.proofs.Common.{refl, sym, ap, subst, ◌∙◌}
use Rattle.std.proofs.lemmas.Option.{same_Some, none-some}
use Rattle.std.specs.Prelude.{Option, None, Some, IsSome, option_map, slice_get, unsigned_abs}
use Rattle.std.specs.Prelude.{unwrap_or}
use Rattle.std.specs.Int.Signed.{≤ℤ_refl}
use Rattle.ldp_num.specs.Twins.{TwinPair}
use Rattle.ldp_num.specs.Written.{number_ops, range_ops}
use Rattle.ldp_num.specs.declared.fix.Fix.{Fix}
use Rattle.ldp_range.specs.Range.{twice, pair_low_abs}
use Rattle.ldp_range.proofs.Bounds.{own}
use Rattle.ldp_range.proofs.Ends.{absolute-of_one}
use Rattle.ldp_distortion.specs.Prepared.{PreparedCells, joined_at}
use Rattle.ldp_distortion.specs.Inputs.{numbers}
use Rattle.ldp_problem.specs.Costs.{at_cells, first_largest, tally, cost_answer}
use Rattle.ldp_problem.specs.declared.cost.Cost.{Cost}
use Rattle.ldp_problem.specs.declared.cost.Cost.TheVariants as costs
use Rattle.ldp_sweep.specs.declared.stretch.Stretch.{Stretch}
use Rattle.ldp_sweep.specs.declared.peak.Peak.{Peak}
use Rattle.ldp_sweep.specs.declared.enclosure.Enclosure.{Enclosure}
use Rattle.ldp_sweep.specs.Cut.{IsWithin}
use Rattle.ldp_sweep.specs.Tally.{over_of, peak_of, undefined_of}
use Rattle.ldp_stretch.specs.Spans.{IsSpanned, SpansAt}
use Rattle.ldp_stretch.specs.Twins.{number_twins, StandForRanges}
use Rattle.ldp_bound.specs.declared.summary.Summary.{Summary}
use Rattle.ldp_design.specs.declared.family.Family.{Family}
use Rattle.ldp_design.specs.declared.design.Design.{Design}
use Rattle.ldp_design.specs.declared.design_box.DesignBox.{DesignBox}
use Rattle.ldp_bound.specs.declared.kinds.PreparedKinds.{PreparedKinds}
use Rattle.ldp_bound.specs.Kept.{low_from, size_from, kept_lower, kept_delta, TellsBox, TellsDesign}
use Rattle.ldp_bound.specs.Plain.{least_size}
use Rattle.ldp_bound.specs.Summary.{tally_of, cost_over}
use Rattle.ldp_bound.proofs.Carriers.{at_mapped, twice_maps}
use Rattle.ldp_bound.proofs.Loops.{all_defined}
use Rattle.ldp_bound.proofs.Tallies.{same_tally}

-- a box: its values are defined at every cell
pub box_defined : (f : ℕ → ℕ) (count cell : ℕ)
    → undefined_of (λ k. Some (f k)) count ≡ Some cell → ⊥
box_defined f count cell e = none-some cell (sym (all_defined f count) ∙ e)

pub box_told : (f : ℕ → ℕ) (tolerance : Option ℕ) (count over : ℕ) (peak : Peak)
    → over ≡ over_of (λ k. Some (f k)) tolerance count → peak ≡ peak_of (λ k. Some (f k)) count
    → ◌≡◌ {A = Summary} (record { over = over; value = peak.value; cell = peak.cell })
    (tally_of tolerance (at_cells f count))
unfolding tally_of
box_told f tolerance count over peak counts top =
    same_tally over _ peak.value _ peak.cell _ counts (ap (λ (p : Peak). p.value) top)
    (ap (λ (p : Peak). p.cell) top)

-- a design
same_cost : (over more value most cell first : ℕ) → over ≡ more → value ≡ most → cell ≡ first
    → costs.Is over (pos value) cell ≡ costs.Is more (pos most) first
same_cost over more value most cell first h k l = cc

pub design_told : (sizes : ℕ → Option ℕ) (tolerance : Option ℕ) (count over : ℕ) (peak : Peak)
    → over ≡ over_of sizes tolerance count → peak ≡ peak_of sizes count
    → undefined_of sizes count ≡ None
    → costs.Is over (pos peak.value) peak.cell ≡ cost_over tolerance sizes count
unfolding cost_over
design_told sizes tolerance count over peak counts top none =
    let values : List ℕ = at_cells (λ cell. unwrap_or (sizes cell) 0) count in
    same_cost over _ peak.value _ peak.cell _ counts (ap (λ (p : Peak). p.value) top)
    (ap (λ (p : Peak). p.cell) top)
    ∙ ap (λ (o : Option ℕ). cost_answer o (tally tolerance values) (first_largest values))
    (sym none)

pub design_undefined : (sizes : ℕ → Option ℕ) (tolerance : Option ℕ) (count cell : ℕ)
    → undefined_of sizes count ≡ Some cell
    → costs.Unusable cell ≡ cost_over tolerance sizes count
unfolding cost_over
design_undefined sizes tolerance count cell is =
    let values : List ℕ = at_cells (λ k. unwrap_or (sizes k) 0) count in
    ap (λ (o : Option ℕ). cost_answer o (tally tolerance values) (first_largest values)) (sym is)

-- the values at the cells of a stretch lie within its span
pub box_within : (p : PreparedCells) (design : List (ℤ × ℤ)) (twins : List TwinPair)
    (nodes : List Stretch) (at : ℕ) (span : Enclosure) → StandForRanges design twins
    → SpansAt p twins nodes at span → (node : Stretch) → slice_get nodes at ≡ Some node
    → IsWithin (λ cell. Some (low_from p design cell)) node.from node.to span
box_within p design twins nodes at span held spans node found = record {
  defined = λ cell from to. search rules;
  low = λ cell from to.
      let spanned = spans node found design cell held from to in
      subst (λ (o : Option (ℤ × ℤ)). span.low ≤ least_size o) (sym spanned.is) spanned.low;
  high = λ cell from to.
      let spanned = spans node found design cell held from to in
      subst (λ (o : Option (ℤ × ℤ)). least_size o ≤ span.high) (sym spanned.is) spanned.high;
}

-- the twins of numbers stand for these as ranges
numbers_stand : (design : List Fix)
    → StandForRanges (map twice (numbers design)) (number_twins design)
numbers_stand [] = tt
numbers_stand (x ∷ design) = (own (twice x.n) (≤ℤ_refl x.n), numbers_stand design)

-- the absolute value of a number whose range is spanned
record IsSized (found : Option ℤ) (span : Enclosure) : Type 0 where
  defined : IsSome (option_map unsigned_abs found)
  low : span.low ≤ unwrap_or (option_map unsigned_abs found) 0
  high : unwrap_or (option_map unsigned_abs found) 0 ≤ span.high

sized : (found : Option ℤ) (span : Enclosure) → IsSpanned (option_map twice found) span
    → IsSized found span
sized None span spanned = absurd (none-some spanned.range spanned.is)
sized (Some n) span spanned =
    let same : twice n ≡ spanned.range = same_Some (twice n) spanned.range spanned.is in
    let size : unsigned_abs (pair_low_abs spanned.range) ≡ unsigned_abs n =
    ap (λ (r : ℤ × ℤ). unsigned_abs (pair_low_abs r)) (sym same)
    ∙ ap unsigned_abs (absolute-of_one n).0 in
    record {
      defined = search rules;
      low = subst (λ k. span.low ≤ k) size spanned.low;
      high = subst (λ k. k ≤ span.high) size spanned.high;
    }

pub design_within : (p : PreparedCells) (design : List Fix) (twins : List TwinPair)
    (nodes : List Stretch) (at : ℕ) (span : Enclosure) → twins ≡ number_twins design
    → SpansAt p twins nodes at span → (node : Stretch) → slice_get nodes at ≡ Some node
    → IsWithin (size_from p (numbers design)) node.from node.to span
design_within p design twins nodes at span twin spans node found = record {
  defined = λ cell from to. (at_one cell from to).defined;
  low = λ cell from to. (at_one cell from to).low;
  high = λ cell from to. (at_one cell from to).high;
}
  where
    stand : StandForRanges (map twice (numbers design)) twins
    stand = subst (StandForRanges (map twice (numbers design))) (sym twin) (numbers_stand design)

    at_one : (cell : ℕ) → node.from ≤ cell → cell < node.to
        → IsSized (joined_at number_ops p (numbers design) cell) span
    at_one cell from to =
        sized (joined_at number_ops p (numbers design) cell) span
        (subst (λ (o : Option (ℤ × ℤ)). IsSpanned o span)
        (at_mapped twice number_ops range_ops twice_maps p (numbers design) cell)
        (spans node found (map twice (numbers design)) cell stand from to))

-- from the results of the design list, wherever the prepared cells were read
pub same_lows : (families : List Family) (kinds : PreparedKinds) (b : DesignBox)
    (p q : PreparedCells) (inputs : List (ℤ × ℤ)) → TellsBox families kinds b p inputs → q ≡ p
    → kept_lower families kinds b ≡ low_from q (take (length q.lists.design.outs) inputs)
same_lows families kinds b p q inputs tells same =
    tells.lows
    ∙ ap (λ (r : PreparedCells). low_from r (take (length r.lists.design.outs) inputs)) (sym same)

pub same_sizes : (families : List Family) (kinds : PreparedKinds) (d : Design)
    (p q : PreparedCells) (inputs : List Fix) → TellsDesign families kinds d p inputs → q ≡ p
    → kept_delta families kinds d ≡ size_from q (numbers (take (length q.lists.design.outs) inputs))
same_sizes families kinds d p q inputs tells same =
    tells.sizes
    ∙ ap (λ (r : PreparedCells). size_from r (numbers (take (length r.lists.design.outs) inputs)))
    (sym same)

pub swept_lows : (f : ℕ → ℕ) (p cells : PreparedCells) (design front : List (ℤ × ℤ)) (n count : ℕ)
    (tolerance : Option ℕ) (told : Summary)
    → told ≡ tally_of tolerance (at_cells (low_from cells design) n)
    → cells ≡ p → n ≡ count → design ≡ front → f ≡ low_from p front
    → told ≡ tally_of tolerance (at_cells f count)
swept_lows f p cells design front n count tolerance told e h k l m = e ∙ rw (h, k, l, m) refl

pub swept_sizes : (f : ℕ → Option ℕ) (p cells : PreparedCells) (design front : List Fix)
    (n count : ℕ) (tolerance : Option ℕ) (told : Cost)
    → told ≡ cost_over tolerance (size_from cells (numbers design)) n
    → cells ≡ p → n ≡ count → design ≡ front → f ≡ size_from p (numbers front)
    → told ≡ cost_over tolerance f count
swept_sizes f p cells design front n count tolerance told e h k l m = e ∙ rw (h, k, l, m) refl
