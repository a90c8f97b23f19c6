use Rattle.ldp_num.specs.Number.{IsNumber}
use Rattle.ldp_centred.proofs.Casts.{number-passed}
use Rattle.ldp_centred.proofs.root.rooted_at.Goals as goal

pub returns-in-Some : goal.returns-in-Some
returns-in-Some c =
    let n : IsNumber c.in-Some.centre = rw c.in-Some.is at c.requires in
    rw (c.in-Some.is, c.rooted_by.ensures, c.sum_of_roots.ensures)
    (simp (number-passed c.in-Some.centre n))
