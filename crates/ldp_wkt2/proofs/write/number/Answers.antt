use Rattle.std.proofs.Common.{◌≡◌, ◌≤◌, ℕ, List, ℤ, to_z, of_z, unsigned_abs, IfOk, sym, ap, ◌∙◌}
use Rattle.std.proofs.Common.{arith, subst}
use Rattle.std.specs.Int.{w128}
use Rattle.std.proofs.lemmas.Int.{ints, to_z-of_z, fits_signed_from_abs}
use Rattle.ldp_decimal.specs.Writing.{trimmed_text}
use Rattle.ldp_design.specs.declared.key.Key.{Key}
use Rattle.ldp_design.specs.declared.key_range.KeyRange.{KeyRange}
use Rattle.ldp_design.specs.KeyRanges.{range_of}
use Rattle.ldp_wkt2.specs.Lines.{number_text}
use Rattle.ldp_wkt2.specs.Profile.{row_of}
use Rattle.ldp_wkt2.specs.Values.{value_of}
use Rattle.ldp_wkt2.proofs.Allowed.{small_value}
use Rattle.ldp_wkt2.proofs.write.number.Goals as goal

-- a number that is kept as it is, and is small
held : (z y : ℤ) → z ≡ y → unsigned_abs y ≤ 2000000000000000
    → (to_z w128 (of_z w128 z) ≡ z) × (unsigned_abs z ≤ 2000000000000000)
held z y e small =
    let is : unsigned_abs z ≤ 2000000000000000 =
    subst (λ (x : ℤ). unsigned_abs x ≤ 2000000000000000) (sym e) small in
    (to_z-of_z w128 z (fits_signed_from_abs w128 z (omega (arith, is))), is)

pub write_trimmed-requires-clause-low : goal.write_trimmed-requires-clause-low
write_trimmed-requires-clause-low c =
    let is = held c.value_of.result (value_of c.key-key.result c.args.crs.now) c.value_of.ensures
    (small_value c.key-key.result c.args.crs.now c.requires) in
    rw is.0 (omega (arith, ints, is.1))

pub write_trimmed-requires-clause-high : goal.write_trimmed-requires-clause-high
write_trimmed-requires-clause-high c =
    let is = held c.value_of.result (value_of c.key-key.result c.args.crs.now) c.value_of.ensures
    (small_value c.key-key.result c.args.crs.now c.requires) in
    rw is.0 (omega (arith, ints, is.1))

pub returns : goal.returns
returns c =
    let is = held c.value_of.result (value_of c.key-key.result c.args.crs.now) c.value_of.ensures
    (small_value c.key-key.result c.args.crs.now c.requires) in
    let places : c.range_of.result.places
    ≡ (range_of (row_of c.args.parameter).key c.args.crs.now.kind).places =
    ap (λ (range : KeyRange). range.places) c.range_of.ensures
    ∙ ap (λ (key : Key). (range_of key c.args.crs.now.kind).places) c.key-key.ensures in
    let value : to_z w128 (of_z w128 c.value_of.result)
    ≡ value_of (row_of c.args.parameter).key c.args.crs.now =
    is.0
    ∙ (c.value_of.ensures
    ∙ ap (λ (key : Key). value_of key c.args.crs.now) c.key-key.ensures) in
    subst (λ (x : List ℕ). IfOk c.write_trimmed.result (λ text. text ≡ x))
    (ap (λ (n : ℕ). trimmed_text n (to_z w128 (of_z w128 c.value_of.result))) places
    ∙ ap (λ (z : ℤ). number_text c.args.crs.now.kind c.args.parameter z) value)
    c.write_trimmed.ensures
