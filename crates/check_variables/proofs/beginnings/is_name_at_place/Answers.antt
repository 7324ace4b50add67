use Rattle.std.proofs.Common.{◌∙◌}
use Rattle.regent_tree.specs.Plain.{steps_in}
use Rattle.regent_tree.proofs.Rows.{steps_of_vec}
use Rattle.check_variables.proofs.Alone.{one_place}
use Rattle.check_variables.proofs.beginnings.is_name_at_place.Goals as goal

pub returns-in-Access : goal.returns-in-Access
returns-in-Access c =
    rw (c.in-Access.is, steps_of_vec c.in-Access.steps, ← c.as_slice.ensures.value)
    (c.is_one_place.ensures ∙ one_place c.in-Access.name (steps_in c.as_slice.result.now))
