-- Rule 12, CallConstraint: what a called task says of its regions doesn't follow, for the arguments,
-- from what is known. A clause with a breach says nothing.
use Rattle.std.specs.List.{list_any}
use Rattle.std.specs.Prelude.{Bool, List, false, not}
use Rattle.regent_tree.specs.Facts.{are_disjoint, is_subregion}
use Rattle.regent_tree.specs.StaticTypes.{place_in, task_named}
use Rattle.regent_tree.specs.declared.typing.StaticType.{StaticType}
use Rattle.regent_tree.specs.declared.typing.StaticType.TheVariants.{Region as region_type}
use Rattle.regent_tree.specs.Syntax.{Name, Tree}
use Rattle.regent_tree.specs.declared.facts.Known.{Known}
use Rattle.regent_tree.specs.declared.program.Clause.{Clause}
use Rattle.regent_tree.specs.declared.program.Clause.TheVariants as clause
use Rattle.regent_tree.specs.declared.types.Param.{Param}
use Rattle.check_rules.specs.rules.Clauses.{clauses_told}
use Rattle.check_rules.specs.types.TypedForms.{Calling}
use Rattle.check_rules.specs.types.Sorts.{type_at}

-- of two regions; what isn't a region is told elsewhere
abbrev pub is_not_within : List Known → StaticType → StaticType → Bool
is_not_within known (region_type k s args a) (region_type j u others b) =
    not (is_subregion known a b)
is_not_within known t u = false

abbrev pub are_not_apart : List Known → StaticType → StaticType → Bool
are_not_apart known (region_type k s args a) (region_type j u others b) =
    not (are_disjoint known a b)
are_not_apart known t u = false

-- the argument for a parameter that a clause names
abbrev pub argument_for : List Param → List StaticType → Name → StaticType
argument_for params types n = type_at types (place_in params n)

abbrev pub breaks_clause : List Known → List Param → List StaticType → Clause → Bool
breaks_clause known params types (clause.Within a b) =
    is_not_within known (argument_for params types a) (argument_for params types b)
breaks_clause known params types (clause.Apart a b) =
    are_not_apart known (argument_for params types a) (argument_for params types b)
breaks_clause known params types (clause.Grants grants places) = false

abbrev pub breaks_constraint : Tree → List Known → Calling → Bool
breaks_constraint tree known c = let t = task_named tree c.task in
    list_any (breaks_clause known t.params c.args) (clauses_told tree t)
