use Rattle.std.proofs.Common.{◌≡◌, ◌++◌, ◌∷◌, decimal, List, ℕ, ℤ, to_z, of_z, ap, ◌∙◌}
use Rattle.std.specs.Int.{w128}
use Rattle.ldp_decimal.specs.Writing.{trimmed_text}
use Rattle.ldp_table.specs.Texts.{ppm_text}
use Rattle.ldp_table.proofs.Bounds.{small_number, small_lat, small_lon, small_height, height_held}
use Rattle.ldp_table.proofs.Lined.{on_ok, row_is}
use Rattle.ldp_table.proofs.table.push_row.Goals as goal

-- the word of a number that is held
word_held : (t1 t2 : List ℕ) (write : ℤ → List ℕ) (y z : ℤ) → y ≡ z → t2 ≡ t1 ++ 32 ∷ write y
    → t2 ≡ t1 ++ 32 ∷ write z
word_held t1 t2 write y z e h = h ∙ ap (λ x. t1 ++ 32 ∷ write x) e

kept : (x z : ℤ) → x ≡ z → to_z w128 (of_z w128 z) ≡ z → to_z w128 (of_z w128 x) ≡ z
kept x z e h = ap (λ y. to_z w128 (of_z w128 y)) e ∙ h

pub returns : goal.returns
returns c =
    let row = c.args.row.now in
    let height : c.from.result ≡ row.cell.mm =
    c.from.ensures ∙ height_held row c.requires in
    on_ok c.push.result _ _
    (λ h. row_is c.args.text.now c.push_place.new.text c.push_trimmed.new.text
    c.push_trimmed-2.new.text c.push_trimmed-3.new.text c.push_fixed.new.text c.push.new.self
    (decimal row.cell.row) (decimal row.cell.col) (trimmed_text 12 row.cell.y)
    (trimmed_text 12 row.cell.x) (trimmed_text 3 row.cell.mm) (ppm_text row.distortion)
    c.in_ok-push_place.ensures
    (word_held _ _ (trimmed_text 12) _ row.cell.y (small_lat row c.requires).held
    c.in_ok-push_trimmed.ensures)
    (word_held _ _ (trimmed_text 12) _ row.cell.x (small_lon row c.requires).held
    c.in_ok-push_trimmed-2.ensures)
    (word_held _ _ (trimmed_text 3) _ row.cell.mm
    (kept _ _ height (small_height row c.requires).held) c.in_ok-push_trimmed-3.ensures)
    (word_held _ _ ppm_text _ row.distortion
    (small_number row.distortion c.requires.distortion).held c.in_ok-push_fixed.ensures) h)
    c.push.ensures.ok
