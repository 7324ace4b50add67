-- Initializers of variables, and the scope after a statement where there may be breaches.
use Rattle.std.specs.List.{list_any}
use Rattle.std.specs.Prelude.{Bool, List, None, Option, Some, [], cond, false, map, not, true, ◌&&◌, ◌++◌, ◌||◌, ◌∷◌}
use Rattle.regent_tree.specs.Scopes.{Scope, in_scope, knowing, known_of_type, with_name, past}
use Rattle.regent_tree.specs.declared.typing.Bound.{Bound}
use Rattle.regent_tree.specs.StaticTypes.{type_said}
use Rattle.regent_tree.specs.declared.typing.StaticType.{StaticType}
use Rattle.regent_tree.specs.declared.typing.StaticType.TheVariants.{Unknown as unknown_type}
use Rattle.regent_tree.specs.Syntax.{Arms, Block, Expression, Form, Name, Otherwise, Initializer, Tree, a_link, a_statement, an_arm, both_initializer, by_field_initializer, chain_expr, do_form, either_initializer, else_block, equal_initializer, for_in_form, for_to_form, if_form, image_initializer, no_arm, no_else, no_link, no_statement, plain_initializer, preimage_initializer, region_initializer, then_statement, var_form, while_form}
use Rattle.regent_tree.specs.Typing.{arithmetic_type, known_of_initializer, initializer_type, taken_from}
use Rattle.regent_tree.specs.declared.facts.Known.{Known}
use Rattle.regent_tree.specs.declared.types.Kind.TheVariants.{Int1d}
use Rattle.regent_tree.specs.declared.types.TypeTerm.{TypeTerm}
use Rattle.regent_tree.specs.declared.types.TypeTerm.TheVariants as typed
use Rattle.check_rules.specs.types.Declarations.{is_flawed_type}
use Rattle.check_rules.specs.types.Params.{type_unless}
use Rattle.check_rules.specs.types.KnownTypes.{known_type}
use Rattle.regent_tree.specs.Lookup.{type_named}
use Rattle.check_rules.specs.rules.Names.{unbound_name_in_initializer}
use Rattle.check_rules.specs.rules.Partitions.{is_difference, miscolours_initializer, mispartitions_initializer}
use Rattle.check_rules.specs.types.Sorts.{is_collection, is_integer, is_unknown_type}
use Rattle.check_rules.specs.rules.Places.{has_wrong_initializer}
use Rattle.check_rules.specs.rules.Standing.{Standing, space_spot, stands, typed_spot}
use Rattle.check_rules.specs.rules.Types.{is_ill_typed_at_place}

-- ---- initializers

-- the expressions that stand in an initializer
abbrev pub members_of : Expression → List Expression
members_of (chain_expr first (a_link o e no_link)) = first ∷ e ∷ []
members_of e = e ∷ []

abbrev pub expressions_in_initializer : List Bound → Initializer → List Expression
expressions_in_initializer names (region_initializer e u) = e ∷ []
expressions_in_initializer names (equal_initializer r e) = e ∷ []
expressions_in_initializer names (by_field_initializer r f e) = e ∷ []
expressions_in_initializer names (plain_initializer e) = cond (is_difference names e) (members_of e) (e ∷ [])
expressions_in_initializer names initializer = []

-- the colours of a partition, and the size of a new region, are index spaces
abbrev pub standing_in_initializer : Tree → Scope → Initializer → List Standing
standing_in_initializer tree s (region_initializer e u) = stands (known_type tree s e) space_spot ∷ []
standing_in_initializer tree s (equal_initializer r e) = stands (known_type tree s e) space_spot ∷ []
standing_in_initializer tree s (by_field_initializer r f e) = stands (known_type tree s e) space_spot ∷ []
standing_in_initializer tree s initializer = []

-- the type that an initializer has written in it; its kind is that of the index space
abbrev pub written_in_initializer : Initializer → List TypeTerm
written_in_initializer (region_initializer e u) = typed.Region Int1d u ∷ []
written_in_initializer initializer = []

-- ---- types of variables

abbrev pub types_in_initializer : Tree → Scope → Initializer → List StaticType
types_in_initializer tree s initializer =
    map (known_type tree s) (expressions_in_initializer s.names initializer)

-- the regions and partitions on which the type of a new partition depends
abbrev pub origins_of : Initializer → List Name
origins_of (equal_initializer r e) = r ∷ []
origins_of (by_field_initializer r f e) = r ∷ []
origins_of (image_initializer parent p r f) = parent ∷ []
origins_of (preimage_initializer parent p r f) = parent ∷ p ∷ []
origins_of (both_initializer p q) = p ∷ q ∷ []
origins_of (either_initializer p q) = p ∷ q ∷ []
origins_of initializer = []

-- the initializer has a breach, or depends on what is unknown
abbrev pub is_flawed_initializer : Tree → Scope → Initializer → Bool
is_flawed_initializer tree s initializer =
    list_any is_unknown_type (types_in_initializer tree s initializer)
    || miscolours_initializer initializer (types_in_initializer tree s initializer)
    || list_any (is_ill_typed_at_place s.known) (standing_in_initializer tree s initializer)
    || list_any (is_flawed_type tree s.names) (written_in_initializer initializer)
    || unbound_name_in_initializer tree s.names initializer || mispartitions_initializer tree s initializer
    || list_any (λ n. is_unknown_type (type_named s.names n)) (origins_of initializer)

abbrev pub known_initializer : Tree → Scope → Initializer → StaticType
known_initializer tree s initializer =
    type_unless (is_flawed_initializer tree s initializer) (initializer_type tree s s.next initializer)

abbrev pub declared_type : Tree → Scope → TypeTerm → StaticType
declared_type tree s t =
    type_unless (is_flawed_type tree s.names t) (type_said tree (in_scope s) s.next t)

-- the type that a new variable has: as it is declared, or else as its initializer's
abbrev pub variable_type : Tree → Scope → Option TypeTerm → Option Initializer → StaticType
variable_type tree s (Some t) initializer = declared_type tree s t
variable_type tree s None (Some initializer) = known_initializer tree s initializer
variable_type tree s None None = unknown_type

-- the initializer of a variable with a declared type
abbrev pub stands_declared : StaticType → Option TypeTerm → StaticType → List Standing
stands_declared t None wanted = []
stands_declared t (Some term) wanted = stands t (typed_spot wanted) ∷ []

-- what a variable begins with is missing, isn't known, doesn't fit, or isn't as it must be
abbrev pub begins_unsoundly : Tree → Scope → Option TypeTerm → Option Initializer → Bool
begins_unsoundly tree s t None = true
begins_unsoundly tree s t (Some initializer) =
    let begun = known_initializer tree s initializer in
    let wanted = variable_type tree s t (Some initializer) in
    is_unknown_type begun || list_any (is_ill_typed_at_place s.known) (stands_declared begun t wanted)
    || has_wrong_initializer s.names wanted begun initializer

-- The type of a new variable for all that stands after it. Which region, partition or index space it
-- is comes from what it begins with; where that is unsound it is unknown, whatever its declared type.
abbrev pub bound_type : Tree → Scope → Option TypeTerm → Option Initializer → StaticType
bound_type tree s t initializer = let type = variable_type tree s t initializer in
    type_unless (is_collection type && begins_unsoundly tree s t initializer) type

-- ---- scopes

-- what an initializer tells, where it has no breach
abbrev pub known_of_known_initializer : Tree → Scope → Option Initializer → List Known
known_of_known_initializer tree s None = []
known_of_known_initializer tree s (Some initializer) =
    cond (is_flawed_initializer tree s initializer) [] (known_of_initializer tree s s.next (Some initializer))

-- a counted loop's variable is an integer where both bounds are
abbrev pub counted_type : StaticType → StaticType → StaticType
counted_type a b = type_unless (not (is_integer a && is_integer b)) (arithmetic_type a b)

-- the scope in which the body of a loop begins
abbrev pub scope_in_loop : Tree → Scope → Name → Expression → Scope
scope_in_loop tree s n domain = with_name s n (taken_from (known_type tree s domain)) true

abbrev pub scope_in_count : Tree → Scope → Name → Expression → Expression → Scope
scope_in_count tree s n from to =
    with_name s n (counted_type (known_type tree s from) (known_type tree s to)) true

-- The scope after a statement: as in the meaning of programs, but that a new variable has its
-- `bound_type`, and an initializer with a breach tells nothing.
abbrev mutual
  pub known_scope_after : Tree → Scope → Form → Scope
  known_scope_after tree s (var_form n t initializer) =
      let type = bound_type tree s t initializer in
      knowing (with_name s n type false)
      (known_of_known_initializer tree s initializer ++ known_of_type type)
  known_scope_after tree s (if_form arms other) =
      known_scope_after_else tree (known_scope_after_arms tree s arms) other
  known_scope_after tree s (while_form test body) = past s (known_scope_after_block tree s body)
  known_scope_after tree s (for_in_form demanded n domain body) =
      past s (known_scope_after_block tree (scope_in_loop tree s n domain) body)
  known_scope_after tree s (for_to_form demanded n from to body) =
      past s (known_scope_after_block tree (scope_in_count tree s n from to) body)
  known_scope_after tree s (do_form body) = past s (known_scope_after_block tree s body)
  known_scope_after tree s form = s

  pub known_scope_after_block : Tree → Scope → Block → Scope
  known_scope_after_block tree s no_statement = s
  known_scope_after_block tree s (then_statement (a_statement line form) rest) =
      known_scope_after_block tree (known_scope_after tree s form) rest

  pub known_scope_after_arms : Tree → Scope → Arms → Scope
  known_scope_after_arms tree s no_arm = s
  known_scope_after_arms tree s (an_arm test body rest) =
      known_scope_after_arms tree (past s (known_scope_after_block tree s body)) rest

  pub known_scope_after_else : Tree → Scope → Otherwise → Scope
  known_scope_after_else tree s no_else = s
  known_scope_after_else tree s (else_block body) = past s (known_scope_after_block tree s body)
