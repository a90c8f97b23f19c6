use Rattle.ldp_message.proofs.job_fault.push_job_fault.Goals as goal

pub returns-in-TooManyNodes-clause-text : goal.returns-in-TooManyNodes-clause-text
returns-in-TooManyNodes-clause-text c =
    rw c.in-TooManyNodes.is
    (rw c.from-in-TooManyNodes.ensures at c.push_count-in-TooManyNodes.ensures.text)
