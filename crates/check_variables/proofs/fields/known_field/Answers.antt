use Rattle.check_variables.proofs.fields.known_field.Goals as goal

pub returns-in-Region : goal.returns-in-Region
returns-in-Region c = rw (c.in-Region.is, ← c.as_slice.ensures) c.field_of_space.ensures
