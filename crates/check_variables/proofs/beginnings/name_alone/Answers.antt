use Rattle.std.proofs.Common.{rules, ◌≡◌, length, sym}
use Rattle.regent_tree.proofs.Rows.{steps_of_vec}
use Rattle.check_variables.proofs.Alone.{alone_with, alone_without}
use Rattle.check_variables.proofs.beginnings.name_alone.Goals as goal

pub returns-then-is_empty : goal.returns-then-is_empty
returns-then-is_empty c =
    let none : length c.in-Access.steps.items ≡ 0 = search rules in
    rw (c.in-Access.is, steps_of_vec c.in-Access.steps)
    (sym (alone_without c.in-Access.name c.in-Access.steps.items none))

pub returns-else-is_empty : goal.returns-else-is_empty
returns-else-is_empty c =
    rw (c.in-Access.is, steps_of_vec c.in-Access.steps)
    (sym (alone_with c.in-Access.name c.in-Access.steps.items (search rules)))
