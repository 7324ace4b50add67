-- What stands where in a statement itself.
use Rattle.std.specs.Prelude.{Bool, List, None, Option, Some, [], map, ◌++◌, ◌∷◌}
use Rattle.regent_tree.specs.Scopes.{Scope}
use Rattle.regent_tree.specs.declared.typing.StaticType.{StaticType}
use Rattle.regent_tree.specs.declared.typing.StaticType.TheVariants.{Unknown as unknown_type}
use Rattle.regent_tree.specs.Syntax.{Expression, Form, TaskTree, Tree, access_expr, assert_form, assign_form, call_form, fill_form, for_in_form, for_to_form, if_form, print_form, return_form, var_form, while_form}
use Rattle.regent_tree.specs.Typing.{result_type}
use Rattle.regent_tree.specs.declared.statement.How.{How}
use Rattle.regent_tree.specs.declared.statement.How.TheVariants as how
use Rattle.regent_tree.specs.declared.types.TypeTerm.{TypeTerm}
use Rattle.check_rules.specs.types.Declarations.{is_no_result_type, known_field}
use Rattle.check_rules.specs.types.Params.{type_unless}
use Rattle.check_rules.specs.types.KnownTypes.{known_type, known_types}
use Rattle.regent_tree.specs.Lookup.{type_named}
use Rattle.check_rules.specs.types.Parts.{listed, tests_of}
use Rattle.check_rules.specs.types.TypedForms.{calling}
use Rattle.check_rules.specs.rules.Standing.{Spot, Standing, domain_spot, integer_spot, standing_in_call, stands, truth_spot, typed_spot, value_spot}
use Rattle.check_rules.specs.rules.Targets.{mistargets}
use Rattle.check_rules.specs.scopes.Variables.{known_initializer, standing_in_initializer, stands_declared, variable_type}

-- the type of a task's results; without one, and where it has a breach, it is unknown
abbrev pub known_result : Tree → Option TypeTerm → StaticType
known_result tree None = unknown_type
known_result tree (Some t) =
    type_unless (is_no_result_type (Some t)) (result_type tree (Some t))

-- the right side of an assignment fits the target, that of a reduction is an integer
abbrev pub spot_of_target : Bool → How → StaticType → Spot
spot_of_target flawed how.Set t = typed_spot (type_unless flawed t)
spot_of_target flawed (how.Reduce o) t = integer_spot

abbrev pub all_stand : Tree → Scope → Spot → List Expression → List Standing
all_stand tree s spot es = map (λ e. stands (known_type tree s e) spot) es

abbrev pub standing_in_form : Tree → TaskTree → Scope → Form → List Standing
standing_in_form tree task s (var_form n t (Some initializer)) = standing_in_initializer tree s initializer
    ++ stands_declared (known_initializer tree s initializer) t (variable_type tree s t (Some initializer))
standing_in_form tree task s (if_form arms other) = all_stand tree s truth_spot (tests_of arms)
standing_in_form tree task s (while_form test body) =
    stands (known_type tree s test) truth_spot ∷ []
standing_in_form tree task s (for_in_form demanded n domain body) =
    stands (known_type tree s domain) domain_spot ∷ []
standing_in_form tree task s (for_to_form demanded n from to body) =
    stands (known_type tree s from) integer_spot
    ∷ stands (known_type tree s to) integer_spot ∷ []
standing_in_form tree task s (fill_form r fields e) = map
    (λ f. stands (known_type tree s e) (typed_spot (known_field tree (type_named s.names r) f)))
    fields
standing_in_form tree task s (assert_form e) = stands (known_type tree s e) truth_spot ∷ []
standing_in_form tree task s (print_form alias format args) =
    all_stand tree s value_spot (listed args)
standing_in_form tree task s (call_form t args) =
    standing_in_call tree (calling t (known_types tree s args))
standing_in_form tree task s (assign_form n steps h e) =
    let t = known_type tree s (access_expr n steps) in
    stands (known_type tree s e) (spot_of_target (mistargets task s.names n steps h t) h t) ∷ []
standing_in_form tree task s (return_form (Some e)) =
    stands (known_type tree s e) (typed_spot (known_result tree task.result)) ∷ []
standing_in_form tree task s form = []
