use Rattle.ldp_num.proofs.Ring.{times_associate, times_swap, times_sum, sum_times, times_difference, times_negated}
use Rattle.ldp_num.proofs.laws.whole_products.Goals as goal

pub returns-clause-associate : goal.returns-clause-associate
returns-clause-associate c = times_associate

pub returns-clause-swap : goal.returns-clause-swap
returns-clause-swap c = times_swap

pub returns-clause-sum : goal.returns-clause-sum
returns-clause-sum c = times_sum

pub returns-clause-sum_first : goal.returns-clause-sum_first
returns-clause-sum_first c = sum_times

pub returns-clause-difference : goal.returns-clause-difference
returns-clause-difference c = times_difference

pub returns-clause-negated : goal.returns-clause-negated
returns-clause-negated c = times_negated
