use Rattle.regent_tree.proofs.Rows.{steps_of_vec}
use Rattle.compile_statements.proofs.launches.is_fixed.Goals as goal

pub returns-in-Access : goal.returns-in-Access
returns-in-Access c = rw (c.in-Access.is, steps_of_vec c.in-Access.steps, ← c.as_slice.ensures.value) c.is_fixed_access.ensures
