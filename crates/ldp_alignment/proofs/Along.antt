-- Where a point stands along an axis, and the sums of the four places about it.
use Rattle.std.proofs.Common.{◌≡◌, ℕ, ◌+◌, ◌≤◌, ℤ, pos, negsuc, neg_ℤ, ◌+ℤ◌, ◌-ℤ◌, Option}
use Rattle.std.proofs.Common.{unsigned_abs, arith, ap, ◌∙◌, to_z, of_z}
use Rattle.std.specs.Int.{w128}
use Rattle.std.proofs.lemmas.Int.{ints, fits_signed_from_abs, to_z-of_z}
use Rattle.ldp_quantity.specs.Between.{IsBetween}
use Rattle.ldp_quantity.specs.Quantity.{degrees}
use Rattle.ldp_heights.specs.Grid.{HeightGrid}
use Rattle.ldp_alignment.specs.Heights.{within, two_shares, four_shares, places_before}

-- from 360 degrees below 0 to 100,000,000 above
abbrev IsFar : ℤ → Type 0
IsFar = IsBetween (neg_ℤ (degrees 360)) (degrees 100_000_000)

far_abs : (z : ℤ) → IsFar z → unsigned_abs z ≤ 100_000_000_000_000_000_000
far_abs (pos n) range = omega (arith, ints, range.1)
far_abs (negsuc n) range = omega (arith, ints, range.0)

far_back : (z : ℤ) → IsFar z → to_z w128 (of_z w128 z) ≡ z
far_back z range =
    let small = far_abs z range in
    to_z-of_z w128 z (fits_signed_from_abs w128 z (omega arith))

difference_abs : (a b z : ℤ) → IsFar a → IsFar b → z ≡ a -ℤ b
    → unsigned_abs z ≤ 200_000_000_000_000_000_000
difference_abs a b (pos n) p q is = omega (arith, ints, is, p.1, q.0)
difference_abs a b (negsuc n) p q is = omega (arith, ints, is, p.0, q.1)

refl_z : (z : ℤ) → z ≡ z
refl_z z = λ i. z

pub difference_back : (a b : ℤ) → IsFar a → IsFar b
    → to_z w128 (of_z w128 (to_z w128 (of_z w128 a) -ℤ to_z w128 (of_z w128 b))) ≡ a -ℤ b
difference_back a b p q =
    let small = difference_abs a b (a -ℤ b) p q (refl_z (a -ℤ b)) in
    ap (λ z. to_z w128 (of_z w128 (z -ℤ to_z w128 (of_z w128 b)))) (far_back a p)
    ∙ ap (λ z. to_z w128 (of_z w128 (a -ℤ z))) (far_back b q)
    ∙ to_z-of_z w128 (a -ℤ b) (fits_signed_from_abs w128 (a -ℤ b) (omega arith))

pub place_told : (n s spacing : ℕ) (d at first west : ℤ) → n ≡ places_before s d → s ≡ spacing
    → d ≡ at -ℤ first → first ≡ west → n ≡ places_before spacing (at -ℤ west)
place_told n s spacing d at first west is e f g =
    is ∙ ap (λ z. places_before z d) e
    ∙ ap (λ z. places_before spacing z) (f ∙ ap (λ z. at -ℤ z) g)

pub fours_told : (told : Option ℤ → ℤ) (grid : HeightGrid) (x y sum a b : ℤ)
    (row column at_row at_column : ℕ) → sum ≡ a +ℤ b
    → a ≡ within (two_shares told grid x y column) grid.rows row
    → b ≡ within (two_shares told grid x y column) grid.rows (row + 1)
    → row ≡ at_row → column ≡ at_column → sum ≡ four_shares told grid x y at_row at_column
fours_told told grid x y sum a b row column at_row at_column is p q e f =
    is ∙ ap (λ z. z +ℤ b) p
    ∙ ap (λ z. within (two_shares told grid x y column) grid.rows row +ℤ z) q
    ∙ ap (λ n. four_shares told grid x y n column) e
    ∙ ap (λ n. four_shares told grid x y at_row n) f
