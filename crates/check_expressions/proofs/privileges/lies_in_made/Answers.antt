use Rattle.std.proofs.Common.{sym, ◌∙◌}
use Rattle.std.specs.List.{list_any}
use Rattle.check_expressions.specs.Lying.{lies_in}
use Rattle.check_expressions.proofs.Lying.{made_above_any}
use Rattle.check_expressions.proofs.privileges.lies_in_made.Goals as goal

pub returns : goal.returns
returns c =
    let facts = c.args.scope.now.facts in
    c.lies_in_any.ensures ∙ (λ j. list_any (lies_in (c.facts.ensures j) c.args.term.now) (c.made.ensures j))
    ∙ sym (made_above_any facts facts c.args.term.now)
