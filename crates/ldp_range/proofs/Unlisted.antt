-- A result that means the same as another is the same.
use Rattle.std.proofs.Common.{◌≡◌, ℤ, Option, None, Some, option_map, option_and_then, refl, sym}
use Rattle.std.proofs.Common.{ap, ◌∙◌}
use Rattle.ldp_num.specs.Written.{pair_in, pair_out}

meant : (x : Option (ℤ × ℤ)) → option_and_then pair_in (option_map pair_out x) ≡ x
meant None = refl
meant (Some a) = refl

pub unlisted : (x y : Option (ℤ × ℤ)) → option_map pair_out x ≡ option_map pair_out y → x ≡ y
unlisted x y e = sym (meant x) ∙ ap (option_and_then pair_in) e ∙ meant y
