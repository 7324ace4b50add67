use Rattle.std.proofs.Common.{◌≡◌, drop}
use Rattle.regent_tree.specs.Limits.{first_excess, parts_of_expressions, parts_of_links, parts_of_steps}
use Rattle.regent_tree.specs.Plain.{expressions_in, links_in, steps_in}
use Rattle.read_limits.proofs.expressions.+expression.Given as goal

abbrev pub invariant-in_expressions-loop-arg : goal.invariant-in_expressions-loop-arg
invariant-in_expressions-loop-arg l =
    first_excess (parts_of_expressions (expressions_in (drop l.arg-index l.args)))
    ≡ first_excess (parts_of_expressions (expressions_in l.args))

abbrev pub invariant-in_links-loop-link : goal.invariant-in_links-loop-link
invariant-in_links-loop-link l =
    first_excess (parts_of_links (links_in (drop l.link-index l.links)))
    ≡ first_excess (parts_of_links (links_in l.links))

abbrev pub invariant-in_steps-loop-step : goal.invariant-in_steps-loop-step
invariant-in_steps-loop-step l =
    first_excess (parts_of_steps (steps_in (drop l.step-index l.steps)))
    ≡ first_excess (parts_of_steps (steps_in l.steps))
