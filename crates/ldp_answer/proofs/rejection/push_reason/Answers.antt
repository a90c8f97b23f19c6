use Rattle.ldp_answer.proofs.rejection.push_reason.Goals as goal

pub returns-in-OverDiffers : goal.returns-in-OverDiffers
returns-in-OverDiffers c = rw c.in-OverDiffers.is c.push_counts.ensures

pub returns-in-TreeOutOfPlace : goal.returns-in-TreeOutOfPlace
returns-in-TreeOutOfPlace c = rw c.in-TreeOutOfPlace.is c.push_count-in-TreeOutOfPlace.ensures

pub returns-in-NoSuchCell : goal.returns-in-NoSuchCell
returns-in-NoSuchCell c = rw c.in-NoSuchCell.is c.push_count-in-NoSuchCell.ensures

pub returns-in-NotUnusable : goal.returns-in-NotUnusable
returns-in-NotUnusable c = rw c.in-NotUnusable.is c.push_count-in-NotUnusable.ensures
