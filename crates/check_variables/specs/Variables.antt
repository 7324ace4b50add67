-- The first rule that a `var` breaches, by whether it has a type and an initializer, in the order of the
-- checker.
use Rattle.std.specs.Prelude.{None, Option, Some, [], ◌∷◌}
use Rattle.regent_tree.specs.Scopes.{Scope}
use Rattle.regent_tree.specs.Syntax.{Initializer, TaskTree, Tree}
use Rattle.regent_tree.specs.declared.types.TypeTerm.{TypeTerm}
use Rattle.regent_tree.specs.declared.typing.StaticType.{StaticType}
use Rattle.check_rules.specs.first.FirstInExpressions.{first_in_type, first_of_standing}
use Rattle.check_rules.specs.rules.Places.{has_wrong_initializer}
use Rattle.check_rules.specs.first.Rules.{first_of, rule_if}
use Rattle.check_rules.specs.types.Sorts.{is_collection}
use Rattle.check_rules.specs.rules.Standing.{stands, typed_spot}
use Rattle.check_rules.specs.scopes.Variables.{declared_type, known_initializer}
use Rattle.check_rules.specs.declared.rule.Rule.{Rule}
use Rattle.check_rules.specs.declared.rule.Rule.TheVariants as rule
use Rattle.check_variables.specs.Beginning.{first_in_initializer}

-- with an initializer alone
abbrev pub first_by_initializer : Tree → TaskTree → Scope → Initializer → Option Rule
first_by_initializer tree task s i = let t = known_initializer tree s i in
    first_of (first_in_initializer tree task s i ∷ rule_if (has_wrong_initializer s.names t t i) rule.Place ∷ [])

-- with a declared type alone
abbrev pub first_by_type : Tree → TaskTree → Scope → TypeTerm → Option Rule
first_by_type tree task s t = first_of (first_in_type tree s.names t
    ∷ rule_if (is_collection (declared_type tree s t)) rule.Place
    ∷ [])

-- what a variable of a type begins with, which has a type
abbrev pub first_of_begun : Scope → StaticType → StaticType → Initializer → Option Rule
first_of_begun s wanted t i = first_of (first_of_standing s.known (stands t (typed_spot wanted))
    ∷ rule_if (has_wrong_initializer s.names wanted t i) rule.Place
    ∷ [])

-- with both
abbrev pub first_by_both : Tree → TaskTree → Scope → TypeTerm → Initializer → Option Rule
first_by_both tree task s t i = let wanted = declared_type tree s t in
    first_of (first_in_type tree s.names t
    ∷ first_in_initializer tree task s i
    ∷ first_of_begun s wanted (known_initializer tree s i) i
    ∷ [])

-- whatever it has
abbrev pub first_of_var : Tree → TaskTree → Scope → Option TypeTerm → Option Initializer → Option Rule
first_of_var tree task s None None = Some rule.Type
first_of_var tree task s None (Some i) = first_by_initializer tree task s i
first_of_var tree task s (Some t) None = first_by_type tree task s t
first_of_var tree task s (Some t) (Some i) = first_by_both tree task s t i
