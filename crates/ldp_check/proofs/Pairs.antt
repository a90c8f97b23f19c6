-- The order of costs.
use Rattle.std.proofs.Common.{◌≡◌, false, arith}
use Rattle.std.proofs.lemmas.Bool.Decides.{nat_tests}
use Rattle.std.specs.Prelude.{nat_lt}
use Rattle.ldp_problem.specs.declared.pair.Pair.{Pair}
use Rattle.ldp_problem.specs.Pairs.{AtMost}

-- where no cells are counted, the distortions decide
pub at_most_values : (a b : Pair) → a.over ≡ 0 → b.over ≡ 0 → nat_lt b.value a.value ≡ false
    → AtMost a b
at_most_values a b h k l = grind (arith, nat_tests)
