use Rattle.check_expressions.proofs.expressions.pointed.Goals as goal

pub returns : goal.returns
returns c = rw (← c.tables.ensures, ← c.names.ensures) c.said_pointer.ensures
