-- What an assignment goes to.
use Rattle.std.specs.Prelude.{Bool, List, Option, [], true, ◌&&◌, ◌++◌, ◌||◌, ◌∷◌, ◌≡◌}
use Rattle.regent_tree.specs.Lookup.{is_bound, type_named}
use Rattle.regent_tree.specs.Plain.{steps_in}
use Rattle.regent_tree.specs.Scopes.{Scope, bound_to}
use Rattle.regent_tree.specs.Syntax.{Name, TaskTree, Tree}
use Rattle.regent_tree.specs.declared.expression.Step.{Step, At, Field}
use Rattle.regent_tree.specs.declared.rights.Access.{Access}
use Rattle.regent_tree.specs.declared.rights.Access.TheVariants as access
use Rattle.regent_tree.specs.declared.rights.Wanted.{Wanted}
use Rattle.regent_tree.specs.declared.statement.How.{How}
use Rattle.regent_tree.specs.declared.statement.How.TheVariants as how
use Rattle.regent_tree.specs.declared.typing.Bound.{Bound}
use Rattle.regent_tree.specs.declared.typing.StaticType.{StaticType}
use Rattle.check_rules.specs.first.FirstInExpressions.{first_of_standing, first_of_taking}
use Rattle.check_rules.specs.types.KnownTypes.{known_type_after_steps}
use Rattle.check_rules.specs.rules.Privileges.{lacks, wanted_of_step}
use Rattle.check_rules.specs.first.Rules.{first_of, rule_if}
use Rattle.check_rules.specs.types.TypedForms.{field_of}
use Rattle.check_rules.specs.types.Sorts.{is_space}
use Rattle.check_rules.specs.rules.Standing.{stands}
use Rattle.check_rules.specs.rules.Statements.{spot_of_target}
use Rattle.check_rules.specs.rules.Targets.{is_fixed, is_no_integer}
use Rattle.check_rules.specs.declared.rule.Rule.{Rule}
use Rattle.check_rules.specs.declared.rule.Rule.TheVariants as rule
use Rattle.check_expressions.specs.Steps.{first_at_step, known_type_after}
use Rattle.check_variables.specs.Differences.{is_place}
use Rattle.check_forms.specs.declared.assignments.Target.{Target}
use Rattle.check_forms.specs.declared.assignments.Target.TheVariants as target

-- the type of what stands before the last step
abbrev pub after_front : Tree → Scope → Name → List Step → StaticType
after_front tree s n front = known_type_after_steps tree s (type_named s.names n) (steps_in front)

-- a name leads to what has a type by some steps, the last of which is taken of what has another
pub record LeadsTo (tree : Tree) (s : Scope) (n : Name) (steps : List Step) (last : Step) (holder t : StaticType) : Type 0 where
  pub front : List Step
  pub whole : steps ≡ front ++ last ∷ []
  pub before : holder ≡ after_front tree s n front
  pub is : t ≡ known_type_after tree s holder last

-- what a name with steps after it is as a target
abbrev pub IsTarget : Tree → Scope → Name → List Step → Target → Type 0
IsTarget tree s n steps (target.Variable t) = (steps ≡ []) × (t ≡ type_named s.names n)
IsTarget tree s n steps (target.Field holder f t) = LeadsTo tree s n steps (Field f.now) holder t
IsTarget tree s n steps (target.Element t) =
    (last : Step) × (holder : StaticType) × (is_place last ≡ true) × LeadsTo tree s n steps last holder t

-- the same of its last step alone
abbrev pub EndsIn : Tree → Scope → StaticType → Step → Target → Type 0
EndsIn tree s holder last (target.Variable t) = ⊥
EndsIn tree s holder last (target.Field h f t) =
    (h ≡ holder) × (last ≡ Field f.now) × (t ≡ known_type_after tree s holder last)
EndsIn tree s holder last (target.Element t) =
    (is_place last ≡ true) × (t ≡ known_type_after tree s holder last)

abbrev pub type_of_target : Target → StaticType
type_of_target (target.Variable t) = t
type_of_target (target.Field holder f t) = t
type_of_target (target.Element t) = t

-- the last step of a target, where a field isn't read
abbrev pub first_at_last : Tree → TaskTree → Scope → StaticType → Step → Option Rule
first_at_last tree task s t (Field f) = first_of_taking tree (field_of t f)
first_at_last tree task s t (At e) = first_at_step tree task s t (At e)

-- ---- what may be assigned

-- a variable that is fixed, the colours of a partition, or an element
abbrev pub is_no_place : TaskTree → List Bound → Name → Target → Bool
is_no_place task names n (target.Variable t) = is_bound names n && is_fixed task (bound_to names n)
is_no_place task names n (target.Field holder f t) = is_space t
is_no_place task names n (target.Element t) = true

abbrev pub mistargets : TaskTree → List Bound → Name → Target → How → Bool
mistargets task names n t h = is_no_place task names n t || is_no_integer h (type_of_target t)

-- ---- what is written

abbrev pub wanted_by : Tree → Access → Target → List Wanted
wanted_by tree a (target.Variable t) = []
wanted_by tree a (target.Field holder f t) = wanted_of_step tree a (field_of holder f.now)
wanted_by tree a (target.Element t) = []

abbrev pub first_of_use : Tree → TaskTree → Scope → How → Target → Option Rule
first_of_use tree task s how.Set t = rule_if (lacks tree task s (wanted_by tree access.Write t)) rule.Write
first_of_use tree task s (how.Reduce o) t =
    rule_if (lacks tree task s (wanted_by tree (access.Reduce o) t)) rule.Reduce

-- a target, where the right side has a type
abbrev pub first_of_target : Tree → TaskTree → Scope → Name → How → StaticType → Target → Option Rule
first_of_target tree task s n h value t = let flawed = mistargets task s.names n t h in
    first_of (first_of_standing s.known (stands value (spot_of_target flawed h (type_of_target t)))
    ∷ rule_if flawed rule.Target
    ∷ first_of_use tree task s h t
    ∷ [])
