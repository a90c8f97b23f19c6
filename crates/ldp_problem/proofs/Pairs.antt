-- The order of pairs.
use Rattle.std.proofs.Common.{arith}
use Rattle.std.proofs.lemmas.Bool.Decides.{nat_tests}
use Rattle.std.proofs.lemmas.Cmp.{on_total, then_total, nat_cmp_total}
use Rattle.ldp_problem.specs.Laws.{PairsAreOrdered, AtMostFollows}

pub pair_total : PairsAreOrdered
pair_total = then_total (on_total (λ a. a.over) nat_cmp_total)
    (on_total (λ a. a.value) nat_cmp_total)

pub at_most_trans : AtMostFollows
at_most_trans a b c h k = grind (arith, nat_tests)
