use Rattle.std.proofs.Common.{rules, ◌≡◌, length, sym, ◌∙◌}
use Rattle.regent_tree.proofs.Rows.{steps_of_vec}
use Rattle.static_types.specs.Scopes.{scope_naming}
use Rattle.static_types.proofs.ElementTypes.{colour_with_steps, colour_without}
use Rattle.static_types.proofs.elements.colour_of.Goals as goal

pub returns-then-is_empty : goal.returns-then-is_empty
returns-then-is_empty c =
    let none : length c.in-Access.steps.items ≡ 0 = search rules in
    rw (c.in-Access.is, steps_of_vec c.in-Access.steps)
    (c.colour_named.ensures
    ∙ sym (colour_without (scope_naming c.args.names.now) c.in-Access.name c.in-Access.steps.items none))

pub returns-else-is_empty : goal.returns-else-is_empty
returns-else-is_empty c =
    rw (c.in-Access.is, steps_of_vec c.in-Access.steps)
    (sym (colour_with_steps (scope_naming c.args.names.now) c.in-Access.name c.in-Access.steps.items (search rules)))
