use Rattle.ldp_message.proofs.grid_fault.push_grid_fault.Goals as goal

pub returns-in-TooManyFamilies-clause-text : goal.returns-in-TooManyFamilies-clause-text
returns-in-TooManyFamilies-clause-text c =
    rw c.in-TooManyFamilies.is
    (rw c.from.ensures at c.push_count.ensures.text)

pub returns-in-MissingKey-clause-text : goal.returns-in-MissingKey-clause-text
returns-in-MissingKey-clause-text c =
    rw c.in-MissingKey.is c.push_key.ensures.text

pub returns-in-UnknownKey-clause-text : goal.returns-in-UnknownKey-clause-text
returns-in-UnknownKey-clause-text c =
    rw c.in-UnknownKey.is c.push_key-in-UnknownKey.ensures.text

pub returns-in-OutOfRange-clause-text : goal.returns-in-OutOfRange-clause-text
returns-in-OutOfRange-clause-text c =
    rw c.in-OutOfRange.is c.push_key-in-OutOfRange.ensures.text

pub returns-in-StepNotPositive-clause-text : goal.returns-in-StepNotPositive-clause-text
returns-in-StepNotPositive-clause-text c =
    rw c.in-StepNotPositive.is c.push_key-in-StepNotPositive.ensures.text

pub returns-in-CrossesEquator-clause-text : goal.returns-in-CrossesEquator-clause-text
returns-in-CrossesEquator-clause-text c =
    rw c.in-CrossesEquator.is
    (rw c.from-in-CrossesEquator.ensures at c.push_count-in-CrossesEquator.ensures.text)

pub returns-in-TooManyDesigns-clause-text : goal.returns-in-TooManyDesigns-clause-text
returns-in-TooManyDesigns-clause-text c =
    rw c.in-TooManyDesigns.is
    (rw c.from-in-TooManyDesigns.ensures at c.push_count-in-TooManyDesigns.ensures.text)
