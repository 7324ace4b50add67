use Rattle.check_expressions.proofs.accesses.field_step.Goals as goal

pub returns-in-Pointer : goal.returns-in-Pointer
returns-in-Pointer c = rw (c.in-Pointer.is, ← c.as_slice.ensures, ← c.as_slice-in-Pointer.ensures) c.after_field.ensures
