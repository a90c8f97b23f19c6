use Rattle.std.proofs.Common.{List, ℕ, ℤ, subst, sym, ap, ◌∙◌}
use Rattle.std.specs.Str.{IsAscii}
use Rattle.ldp_decimal.specs.Writing.{decimal_text}
use Rattle.ldp_table.proofs.Ascii.{ppm_ascii}
use Rattle.ldp_table.proofs.Bounds.{small_number}
use Rattle.ldp_table.proofs.object.ppm_value.Goals as goal

pub ascii-requires : goal.ascii-requires
ascii-requires c =
    let is = small_number c.args.distortion c.requires in
    subst (λ (x : List ℕ). IsAscii x)
    (sym (c.bytes.ensures ∙ (c.in_ok-text.ensures ∙ ap (λ (z : ℤ). decimal_text 9 z) is.held)))
    (ppm_ascii c.args.distortion is.size)
