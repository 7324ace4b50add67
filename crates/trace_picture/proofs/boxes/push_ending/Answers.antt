use Rattle.trace_picture.proofs.boxes.push_ending.Goals as goal

pub returns-in-Given : goal.returns-in-Given
returns-in-Given c = rw c.in-Given.is (rw c.format.ensures.text at c.push_all.ensures)

pub returns-in-TakenBack : goal.returns-in-TakenBack
returns-in-TakenBack c = rw c.in-TakenBack.is (rw c.format-in-TakenBack.ensures.text at c.push_all-in-TakenBack.ensures)
