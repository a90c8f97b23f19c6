use Rattle.ldp_message.proofs.height_fault.push_height_fault.Goals as goal

pub returns-in-MissingWord-clause-text : goal.returns-in-MissingWord-clause-text
returns-in-MissingWord-clause-text c =
    rw c.in-MissingWord.is (rw c.word_name.ensures.name at c.push_two.ensures.text)

pub returns-in-UnknownWord-clause-text : goal.returns-in-UnknownWord-clause-text
returns-in-UnknownWord-clause-text c = rw c.in-UnknownWord.is c.push_count.ensures.text

pub returns-in-RepeatedWord-clause-text : goal.returns-in-RepeatedWord-clause-text
returns-in-RepeatedWord-clause-text c =
    rw c.in-RepeatedWord.is c.push_count-in-RepeatedWord.ensures.text

pub returns-in-OutOfRange-clause-text : goal.returns-in-OutOfRange-clause-text
returns-in-OutOfRange-clause-text c =
    rw c.in-OutOfRange.is c.push_count-in-OutOfRange.ensures.text
