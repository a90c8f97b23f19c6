-- Cells beyond the tolerance, counted one after the other.
use Rattle.std.proofs.Common.{◌≡◌, ◌+◌, ℕ, sym, ap, ◌∙◌, ℤ, pos}
use Rattle.std.proofs.Common.{add-one}
use Rattle.std.specs.Prelude.{Option, None, Some, int_lt, option_map}
use Rattle.std.specs.Prelude.{if◌then◌else◌}
use Rattle.ldp_problem.specs.Costs.{at_cells, beyond}
use Rattle.ldp_problem.proofs.Cells.{beyond_grows, beyond_of_one}

-- one more cell
pub count_more : (tolerance : Option ℕ) (t v : ℤ) (f : ℕ → ℕ) (n over : ℕ)
    → option_map pos tolerance ≡ Some t
    → over ≡ beyond tolerance (at_cells f n) → v ≡ pos (f n)
    → over + (if int_lt t v then 1 else 0) ≡ beyond tolerance (at_cells f (n + 1))
count_more None t v f n over e h k = absurd cc
count_more (Some tolerance) t v f n over e h k =
    let same : t ≡ pos tolerance = cc in
    rw (add-one n, h, same, k)
    (sym (beyond_grows (Some tolerance) (at_cells f n) (f n)
    ∙ ap (λ m. beyond (Some tolerance) (at_cells f n) + m) (beyond_of_one tolerance (f n))))
