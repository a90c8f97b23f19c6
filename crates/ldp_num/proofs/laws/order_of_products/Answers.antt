use Rattle.ldp_num.proofs.Ring.{times_up, times_down, times_cancel}
use Rattle.ldp_num.proofs.laws.order_of_products.Goals as goal

pub returns-clause-up : goal.returns-clause-up
returns-clause-up c = times_up

pub returns-clause-down : goal.returns-clause-down
returns-clause-down c = times_down

pub returns-clause-cancel : goal.returns-clause-cancel
returns-clause-cancel c = times_cancel
