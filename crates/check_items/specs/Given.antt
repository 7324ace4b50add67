-- Names that are given again.
use Rattle.std.specs.List.{list_any}
use Rattle.std.specs.Option.{option_or}
use Rattle.std.specs.Prelude.{List, None, Option, [], bytes_eq, map, ◌++◌, ◌∷◌}
use Rattle.regent_tree.specs.Syntax.{ItemTree, Name}
use Rattle.regent_tree.specs.declared.program.Item.{Item}
use Rattle.regent_tree.specs.declared.program.ItemKind.{ItemKind}
use Rattle.regent_tree.specs.declared.program.ItemKind.TheVariants as kind
use Rattle.check_rules.specs.Breaches.{Breach}
use Rattle.check_rules.specs.first.FirstInStatements.{told_on}
use Rattle.check_rules.specs.rules.Repeats.{Given, alias_given, space_given, task_given}
use Rattle.check_rules.specs.first.Rules.{rule_if}
use Rattle.check_rules.specs.declared.rule.Rule.TheVariants as rule
use Rattle.check_items.specs.declared.repeats.Sort.{Sort}
use Rattle.check_items.specs.declared.repeats.Sort.TheVariants as sort

-- the first name that is among those before it, or comes before it in the list
abbrev pub first_again : List Name → List Given → Option Breach
first_again names [] = None
first_again names (g ∷ gs) =
    option_or (told_on g.line (rule_if (list_any (bytes_eq g.name) names) rule.Twice))
    (first_again (names ++ g.name ∷ []) gs)

-- what an item of a tree gives to things of a sort
abbrev pub given_as : Sort → ItemTree → List Given
given_as sort.Task = task_given
given_as sort.Space = space_given
given_as sort.Alias = alias_given

-- and an item of a program
abbrev pub names_of : Sort → ItemKind → List Name
names_of sort.Task (kind.Task t) = t.name ∷ []
names_of sort.Space (kind.Space s) = s.name ∷ []
names_of sort.Alias (kind.Alias n) = n ∷ []
names_of s item = []

abbrev pub given_in : Sort → Item → List Given
given_in s i = map (λ n. record { name = n; line = i.line }) (names_of s i.what)
