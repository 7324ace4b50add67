-- The first rule that is breached in the one call of a loop's body.
use Rattle.std.specs.Prelude.{None, Option, Some}
use Rattle.std.specs.Option.{option_or}
use Rattle.regent_tree.specs.Scopes.{Scope}
use Rattle.regent_tree.specs.Syntax.{TaskTree, Tree}
use Rattle.check_rules.specs.declared.rule.Rule.{Rule}
use Rattle.check_rules.specs.first.FirstInExpressions.{first_in_args, first_of_call}
use Rattle.check_rules.specs.types.KnownTypes.{known_types}
use Rattle.check_rules.specs.types.TypedForms.{calling}
use Rattle.check_rules.specs.launches.Views.{CallSeen}

abbrev pub first_of_only : Tree → TaskTree → Scope → Option CallSeen → Option Rule
first_of_only tree task s None = None
first_of_only tree task s (Some c) =
    option_or (first_in_args tree task s c.args) (first_of_call tree task s (calling c.task (known_types tree s c.args)))
