use Rattle.regent_tree.proofs.Rows.{steps_of_vec}
use Rattle.compile_statements.proofs.launches.varying_arg.Goals as goal

pub returns-in-Access : goal.returns-in-Access
returns-in-Access c = rw (c.in-Access.is, steps_of_vec c.in-Access.steps, ← c.as_slice.ensures.value) c.varying_access.ensures
