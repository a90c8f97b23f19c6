use Rattle.ldp_problem.proofs.Cells.{length-at_cells, cell_at}
use Rattle.ldp_problem.proofs.laws.cells.Goals as goal

pub returns-clause-counted : goal.returns-clause-counted
returns-clause-counted c = (λ f n. length-at_cells f n, λ f n. length-at_cells f n)

pub returns-clause-stand : goal.returns-clause-stand
returns-clause-stand c =
    (λ f n cell other h. cell_at f n cell other h, λ f n cell other h. cell_at f n cell other h)
