-- A choice between two values that may be undefined.
use Rattle.std.specs.Prelude.{ℤ, Option, option_map, option_and_then}

-- f of both, where both are defined
abbrev pub of_both : (ℤ → ℤ → ℤ) → Option ℤ → Option ℤ → Option ℤ
of_both f x y = option_and_then (λ a. option_map (f a) y) x
