-- Initializers of variables, as the checker goes through them.
use Rattle.std.specs.Option.{option_or}
use Rattle.std.specs.Prelude.{Err, None, Ok, Option, Result, Some, [], cond, map, option_to_list, ◌||◌, ◌≡◌, ◌∷◌}
use Rattle.regent_tree.specs.Scopes.{Scope, in_scope}
use Rattle.regent_tree.specs.StaticTypes.{looked_up, place_of_space}
use Rattle.regent_tree.specs.Syntax.{Initializer, TaskTree, Tree}
use Rattle.regent_tree.specs.Typing.{kind_of_ispace, known_of_child, owned}
use Rattle.regent_tree.specs.declared.facts.Known.TheVariants.{Made}
use Rattle.regent_tree.specs.declared.facts.Term.TheVariants as term
use Rattle.regent_tree.specs.declared.types.Kind.TheVariants.{Int1d}
use Rattle.regent_tree.specs.declared.types.SpaceUse.{SpaceUse}
use Rattle.regent_tree.specs.declared.types.TypeTerm.TheVariants as typed
use Rattle.regent_tree.specs.declared.typing.StaticType.{StaticType}
use Rattle.regent_tree.specs.declared.typing.StaticType.TheVariants.{Region as region_type}
use Rattle.check_rules.specs.types.Declarations.{names_unknown}
use Rattle.check_rules.specs.types.Params.{type_unless}
use Rattle.check_rules.specs.first.FirstInExpressions.{first_in_expression, first_of_standing}
use Rattle.check_rules.specs.first.FirstInStatements.{first_of_initializer}
use Rattle.check_rules.specs.first.Rules.{first_in}
use Rattle.check_rules.specs.types.Sorts.{is_unknown_type}
use Rattle.check_rules.specs.scopes.Variables.{expressions_in_initializer, known_of_known_initializer, known_initializer, standing_in_initializer}
use Rattle.check_rules.specs.declared.rule.Rule.{Rule}
use Rattle.static_types.specs.declared.stop.Stop.{Stop}
use Rattle.check_variables.specs.declared.initializers.Beginning.{Beginning}

-- an initializer with the expressions in it, in the order of the checker
abbrev pub first_in_initializer : Tree → TaskTree → Scope → Initializer → Option Rule
first_in_initializer tree task s i =
    option_or (first_in (first_in_expression tree task s) (expressions_in_initializer s.names i))
    (option_or (first_of_initializer tree task s i)
    (first_in (first_of_standing s.known) (standing_in_initializer tree s i)))

-- what a variable is by a new region over an index space of a type, where neither has a breach; the
-- field space's arguments may be unknown
abbrev pub IsOver : Tree → Scope → StaticType → SpaceUse → Beginning → Type 0
IsOver tree s t u b =
    let lost = is_unknown_type t || names_unknown s.names (typed.Region Int1d u) in
    (b.static_type ≡ type_unless lost (region_type (kind_of_ispace t) (place_of_space tree u.name)
    (map (looked_up (in_scope s)) u.args) (term.Name s.next)))
    × (option_to_list b.known ≡ cond lost [] (Made s.next ∷ []))

-- what it is by an expression of a type
abbrev pub IsOfType : Scope → StaticType → Beginning → Type 0
IsOfType s t b = (b.static_type ≡ owned s.next t) × (option_to_list b.known ≡ known_of_child s.next t)

-- what a variable is by its initializer, where that has no breach
abbrev pub IsBegun : Tree → Scope → Initializer → Beginning → Type 0
IsBegun tree s i b = (b.static_type ≡ known_initializer tree s i)
    × (option_to_list b.known ≡ known_of_known_initializer tree s (Some i))

-- what a variable is by a partition, which tells no more than its type
abbrev pub begun_by : Result StaticType Stop → Result Beginning Stop
begun_by (Ok t) = Ok (record { static_type = t; known = None })
begun_by (Err stop) = Err stop
