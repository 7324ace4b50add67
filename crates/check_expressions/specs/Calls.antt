-- What a called task wants of arguments.
use Rattle.std.specs.Option.{option_or}
use Rattle.std.specs.Prelude.{List, Option, [], ◌∷◌}
use Rattle.regent_tree.specs.Scopes.{Scope}
use Rattle.regent_tree.specs.Syntax.{TaskTree, Tree}
use Rattle.regent_tree.specs.declared.rights.Right.{Right}
use Rattle.regent_tree.specs.declared.rights.Wanted.{Wanted}
use Rattle.regent_tree.specs.declared.typing.StaticType.{StaticType}
use Rattle.check_rules.specs.declared.rule.Rule.{Rule}
use Rattle.check_rules.specs.declared.rule.Rule.TheVariants as rule
use Rattle.check_rules.specs.first.FirstInExpressions.{first_of_standing}
use Rattle.check_rules.specs.first.Rules.{first_in, first_of, rule_if}
use Rattle.check_rules.specs.rules.Constraints.{breaks_constraint}
use Rattle.check_rules.specs.rules.Partitions.{mispartitions_call}
use Rattle.check_rules.specs.rules.Privileges.{lacks, wanted_by_call, wanted_of_argument}
use Rattle.check_rules.specs.rules.Spaces.{misfits_call}
use Rattle.check_rules.specs.rules.Standing.{standing_in_call}
use Rattle.check_rules.specs.types.Declarations.{params_of}
use Rattle.check_rules.specs.types.TypedForms.{Calling}
use Rattle.check_rules.specs.types.Sorts.{type_at}

-- by one of its privileges, where the parameters and the arguments have these types
abbrev pub wanted_for : List StaticType → List StaticType → Right → List Wanted
wanted_for params types w =
    wanted_of_argument (type_at params w.region) (type_at types w.region) w

-- the first rule that a call breaches by the privileges and the constraints of the called task
abbrev pub first_of_demands : Tree → TaskTree → Scope → Calling → Option Rule
first_of_demands tree task s c =
    first_of (rule_if (lacks tree task s (wanted_by_call tree c)) rule.CallPrivilege
    ∷ rule_if (breaks_constraint tree s.known c) rule.CallConstraint
    ∷ [])

-- the first rule that a call breaches whose task exists and has as many parameters as there are
-- arguments
abbrev pub first_of_arguments : Tree → TaskTree → Scope → Calling → Option Rule
first_of_arguments tree task s c =
    option_or (first_in (first_of_standing s.known) (standing_in_call tree c))
    (option_or (rule_if (misfits_call (params_of tree c.task) c) rule.Spaces)
    (option_or (rule_if (mispartitions_call (params_of tree c.task) c) rule.Partition)
    (first_of_demands tree task s c)))
