-- What `eval` prints. Own choice of this project.
use Rattle.std.specs.Prelude.{ℕ, ℤ, List, ◌++◌, decimal, codes}
use Rattle.ldp_decimal.specs.Writing.{decimal_text}

-- `cells <n> missing <m>`
abbrev pub cells_line : ℕ → ℕ → List ℕ
cells_line cells missing =
    codes "cells " ++ (decimal cells ++ (codes " missing " ++ (decimal missing ++ codes "\n")))

-- `worst <ppm> ppm at <row> <column>`
abbrev pub worst_line : List ℕ → ℕ → ℕ → List ℕ
worst_line ppm row column =
    codes "worst " ++ (ppm ++ (codes " ppm at "
    ++ (decimal row ++ (codes " " ++ (decimal column ++ codes "\n")))))

-- both lines; the worst is in units of 10^-15, so with nine decimals in ppm
abbrev pub eval_text : ℕ → ℕ → ℤ → ℕ → ℕ → List ℕ
eval_text cells missing worst row column =
    cells_line cells missing ++ worst_line (decimal_text 9 worst) row column
